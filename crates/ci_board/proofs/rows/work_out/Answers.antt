use Rattle.std.proofs.Common.{◌∙◌}
use Rattle.ci_board.proofs.Assignments.{numbered_first, rows_moved}
use Rattle.ci_board.proofs.rows.work_out.Goals as goal

pub returns-clause-facts : goal.returns-clause-facts
returns-clause-facts g c =
    c.settle.ensures.facts (numbered_first c.args.graph.now c.size-size.ensures.graph c.args.facts.now c.args.rows.now c.requires.rows) ∙ c.requires.fresh

pub returns-clause-rows : goal.returns-clause-rows
returns-clause-rows g c =
    rows_moved c.args.graph.now c.settle.new.graph c.settle.new.facts c.args.facts.now c.settle.new.rows c.settle.ensures.graph
    (c.settle.ensures.facts (numbered_first c.args.graph.now c.size-size.ensures.graph c.args.facts.now c.args.rows.now c.requires.rows) ∙ c.requires.fresh)
    (c.settle.ensures.rows (numbered_first c.args.graph.now c.size-size.ensures.graph c.args.facts.now c.args.rows.now c.requires.rows))
