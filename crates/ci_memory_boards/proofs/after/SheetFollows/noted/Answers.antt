use Rattle.ci_memory_boards.proofs.Stays.{one_in_order}
use Rattle.ci_memory_boards.proofs.after.SheetFollows.noted.Goals as goal

pub returns : goal.returns
returns c k right = (c.in_ok-note_change.ensures k right.1 right.0, one_in_order k c.args.change.now right.1)
