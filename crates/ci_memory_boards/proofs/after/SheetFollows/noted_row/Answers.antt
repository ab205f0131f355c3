use Rattle.ci_memory_boards.proofs.Stays.{row_in_order}
use Rattle.ci_memory_boards.proofs.after.SheetFollows.noted_row.Goals as goal

pub returns : goal.returns
returns c k right = (c.in_ok-note_row.ensures k right.1.rows right.0, row_in_order k c.args.row right.1)
