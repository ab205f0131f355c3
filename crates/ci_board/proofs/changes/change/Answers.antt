use Rattle.std.proofs.Common.{refl, sym, ap, ◌∙◌, List}
use Rattle.ci_board.specs.Prelude.{Row, is_touched, differing}
use Rattle.ci_board.proofs.Answered.{touched_facts, touched_status}
use Rattle.ci_board.proofs.Assignments.{rows_moved}
use Rattle.ci_board.proofs.changes.change.Goals as goal

pub returns-clause-rows : goal.returns-clause-rows
returns-clause-rows g c = λ k.
    rows_moved c.args.graph.now c.settle.new.graph c.settle.new.facts c.settle.new.facts c.settle.new.rows c.settle.ensures.graph refl (c.settle.ensures.rows k.each)

pub returns-clause-meter : goal.returns-clause-meter
returns-clause-meter g c =
    c.settle.ensures.meter (is_touched c.args.changes.now c.fill.new.into.items)
    (λ i e. rw (c.replace.ensures, c.requires.fresh) (touched_facts c.args.changes.now c.fill.new.into.items c.args.facts.now i e))
    (touched_status c.args.changes.now c.fill.new.into.items c.args.rows.now c.settle.new.rows (sym c.settle.auto.rows) (c.fill.ensures.answer ∙ ap (λ (xs : List Row). differing 0 xs c.settle.new.rows) c.requires.before))
