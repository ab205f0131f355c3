use Rattle.std.proofs.Common.{◌≡◌, true}
use Rattle.ci_plan.specs.Circles.{is_left}
use Rattle.ci_plan.proofs.Rounds.{Leads, ArePassed, remaining}
use Rattle.ci_plan.proofs.circles.trail.Given as goal

abbrev pub invariant-round : goal.invariant-round
invariant-round l = record {
  here : is_left l.fn.left l.place ≡ true;
  leads : Leads l.fn.pairs l.passed.items l.place;
  passed : ArePassed l.fn.left l.fresh.items l.passed.items;
}

abbrev pub decreases-round : goal.decreases-round
decreases-round l = remaining l.fresh.items
