use Rattle.std.proofs.Common.{◌≡◌, Bool, true, false, List, sym, subst, rules, replicate}
use Rattle.ci_plan.specs.Circles.{is_left, IsClosed, KeepsCycles}
use Rattle.ci_plan.proofs.Rounds.{one_less, still_kept, all_kept}
use Rattle.ci_plan.proofs.circles.stuck.Goals as goal

pub loop-place-init : goal.loop-place-init
loop-place-init c =
    let is : c.in_ok-left.left.items ≡ replicate c.args.count true = search rules in
    subst (λ (bs : List Bool). KeepsCycles c.args.pairs.now bs) (sym is) (all_kept c.args.pairs.now c.args.count c.requires)

pub loop-place-smaller : goal.loop-place-smaller
loop-place-smaller c =
    one_less c.loop-place.left.items c.in-Some.place (subst (λ (bs : List Bool). is_left bs c.in-Some.place ≡ true) c.deref.ensures.value c.in-Some.ensures.some.1)

pub loop-place-preserved : goal.loop-place-preserved
loop-place-preserved c =
    still_kept c.args.pairs.now c.loop-place.left.items c.in-Some.place c.loop-place.invariant
    (λ p h. subst (λ (bs : List Bool). is_left bs p ≡ false) c.deref.ensures.value (c.in-Some.ensures.some.2 p h))

pub returns-clause-closed : goal.returns-clause-closed
returns-clause-closed c =
    let closed : IsClosed c.args.pairs.now c.deref.result.now = search rules in
    subst (λ (bs : List Bool). IsClosed c.args.pairs.now bs) c.deref.ensures.value closed
