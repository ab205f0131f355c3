use Rattle.ci_board.proofs.Started.{started_rows}
use Rattle.ci_board.proofs.laws.start_changes_one_row.Goals as goal

pub returns : goal.returns
returns c = started_rows
