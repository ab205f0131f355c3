use Rattle.std.proofs.Common.{◌≡◌, ℕ, Bool, false, List, sym, subst, ◌∙◌, rules}
use Rattle.std.proofs.lemmas.Bool.{false≢true}
use Rattle.ci_plan.specs.Circles.{is_left, IsClosed}
use Rattle.ci_plan.proofs.circles.circle.Goals as goal

pub trail-requires-clause-closed : goal.trail-requires-clause-closed
trail-requires-clause-closed c = subst (λ (bs : List Bool). IsClosed c.args.pairs.now bs) (sym c.deref-in-Some.ensures.value) c.in_ok-left.ensures.closed

pub unreachable-requires : goal.unreachable-requires
unreachable-requires c =
    let none : (j : ℕ) → is_left c.deref.result.now j ≡ false = search rules in
    let (i, walk) = c.requires.some in
    let gone : is_left c.in_ok-left.left.items i ≡ false = subst (λ (bs : List Bool). is_left bs i ≡ false) c.deref.ensures.value (none i) in
    false≢true (sym gone ∙ c.in_ok-left.ensures.cycles i walk)
