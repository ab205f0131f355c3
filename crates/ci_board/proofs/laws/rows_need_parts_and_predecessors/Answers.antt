use Rattle.ci_board.proofs.Assignments.{same_graph}
use Rattle.ci_board.proofs.laws.rows_need_parts_and_predecessors.Goals as goal

pub returns : goal.returns
returns c = same_graph
