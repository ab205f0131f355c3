use Rattle.std.proofs.Common.{◌≡◌, ◌<◌, ◌-◌, ℕ, true, false, List, [], ◌∷◌, ◌++◌, length, drop, take, sym, subst, rules, arith, Contains, slice_index_or, slice_set as set}
use Rattle.ci_plan.specs.Circles.{is_left, IsCircle}
use Rattle.ci_plan.proofs.Rounds.{Leads, ArePassed, left_below, one_less, still_fresh, pass_one, leads_push, circle_from, tail_of, made}
use Rattle.std.specs.Global.{Vec}
use Rattle.ci_plan.proofs.circles.trail.Goals as goal

pub returns-in-Some : goal.returns-in-Some
returns-in-Some c =
    let lt : c.in-Some.first < length c.round.passed.items = subst (λ (xs : List ℕ). c.in-Some.first < length xs) c.deref.ensures.value c.in-Some.ensures.some.0 in
    let is : slice_index_or c.round.passed.items c.in-Some.first c.round.place ≡ c.round.place =
    subst (λ (xs : List ℕ). slice_index_or xs c.in-Some.first c.round.place ≡ c.round.place) c.deref.ensures.value c.in-Some.ensures.some.1 in
    let circle : IsCircle c.args.pairs.now (drop c.in-Some.first c.round.passed.items) = circle_from c.args.pairs.now c.in-Some.first c.round.passed.items c.round.place lt is c.round.invariant.leads in
    made (λ (v : Vec ℕ). v.items) (λ (xs : List ℕ). IsCircle c.args.pairs.now xs) c.from_slice-in-Some.result
    (take (length c.deref-in-Some.result.now - c.in-Some.first) (drop c.in-Some.first c.deref-in-Some.result.now)) c.from_slice-in-Some.ensures.items
    (subst (λ (xs : List ℕ). IsCircle c.args.pairs.now xs) (sym (tail_of c.deref-in-Some.result.now c.round.passed.items c.in-Some.first c.deref-in-Some.ensures.value)) circle)

pub index_mut-requires : goal.index_mut-requires
index_mut-requires c =
    let none : Contains c.deref.result.now c.round.place → ⊥ = search rules in
    let here : is_left c.round.fresh.items c.round.place ≡ true =
    still_fresh c.args.left.now c.round.fresh.items c.round.passed.items c.round.place c.round.invariant.passed c.round.invariant.here
    (subst (λ (xs : List ℕ). Contains xs c.round.place → ⊥) c.deref.ensures.value none) in
    let lt : c.round.place < length c.round.fresh.items = left_below c.round.fresh.items c.round.place here in
    omega arith

pub round-smaller : goal.round-smaller
round-smaller c =
    let none : Contains c.deref.result.now c.round.place → ⊥ = search rules in
    one_less c.round.fresh.items c.round.place
    (still_fresh c.args.left.now c.round.fresh.items c.round.passed.items c.round.place c.round.invariant.passed c.round.invariant.here
    (subst (λ (xs : List ℕ). Contains xs c.round.place → ⊥) c.deref.ensures.value none))

pub round-preserved : goal.round-preserved
round-preserved c =
    let items : c.push.new.self.items ≡ c.round.passed.items ++ c.round.place ∷ [] = c.in_ok-push.ensures.items in
    record {
      here = c.in-Some-left_before.ensures.some.1;
      leads = subst (λ (xs : List ℕ). Leads c.args.pairs.now xs c.in-Some-left_before.before) (sym items)
          (leads_push c.args.pairs.now c.round.passed.items c.round.place c.in-Some-left_before.before c.round.invariant.leads c.in-Some-left_before.ensures.some.0);
      passed = subst (λ (xs : List ℕ). ArePassed c.args.left.now (set c.round.fresh.items c.round.place false) xs) (sym items)
          (λ p is. pass_one c.args.left.now c.round.fresh.items c.round.passed.items c.round.place c.round.invariant.passed p is);
    }
