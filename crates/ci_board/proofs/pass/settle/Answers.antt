use Rattle.ci_board.proofs.Assignments.{assignment_of, counted_by}
use Rattle.ci_board.proofs.Whole.{final_facts, final_rows}
use Rattle.ci_board.proofs.Meters.{final_meter}
use Rattle.ci_board.proofs.pass.settle.Goals as goal

pub returns-clause-facts : goal.returns-clause-facts
returns-clause-facts g c k = final_facts c.args.graph.now c.pass.ensures.ordered c.args.fresh.now _ _ c.requires.fresh c.requires.long c.requires.facts c.pass.ensures.pass (counted_by c.args.graph.now c.args.facts.now c.args.rows.now k)

pub returns-clause-rows : goal.returns-clause-rows
returns-clause-rows g c k =
    assignment_of c.args.graph.now _ _
    (final_rows c.args.graph.now c.pass.ensures.ordered c.args.fresh.now _ _ c.requires.long c.requires.facts c.pass.ensures.pass (counted_by c.args.graph.now c.args.facts.now c.args.rows.now k))

pub returns-clause-meter : goal.returns-clause-meter
returns-clause-meter g c t tf tr = final_meter c.args.graph.now c.pass.ensures.ordered c.args.fresh.now _ _ c.requires.long c.pass.ensures.pass t tf tr
