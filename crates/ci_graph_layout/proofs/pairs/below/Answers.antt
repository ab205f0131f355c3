use Rattle.std.proofs.Common.{List, ℕ, ◌++◌, sym, ap, ◌∙◌, arith}
use Rattle.std.proofs.lemmas.List.{append-nil}
use Rattle.ci_graph_layout.proofs.Rising.{none_from}
use Rattle.ci_graph_layout.proofs.pairs.below.Goals as goal

pub returns-then-in_order : goal.returns-then-in_order
returns-then-in_order c =
    let none = none_from c.args.own 0 c.loop-i.i c.loop-i.i c.args.ranks.now (sym c.requires ∙ c.if-in_order.true) c.loop-i-test.true (omega (arith, c.if-other-own.false)) in
    sym (append-nil c.loop-i.places.items) ∙ ap (λ (xs : List ℕ). c.loop-i.places.items ++ xs) (sym none) ∙ c.loop-i.invariant
