-- Which jobs wait for which, before each step and after it: those of one pipeline, and in no circle.
use Rattle.ci_machine_laws.proofs.Prelude.{rules, ◌≡◌, ◌⊎◌, ℕ, ◌+◌, ◌<◌, ◌≤◌, List, [], ◌∷◌, ◌++◌, length, map, Contains, Result, Ok, Err, refl, sym, ap, subst, ◌∙◌, inl, inr}
use Rattle.ci_machine_laws.proofs.Prelude.{⊎_elim, arith, Config, Given, Plans, faulty, cyclic, IsWalk, HasWalk, IsAcyclic, GraphCode, Has, has_filter, contains_from_has}
use Rattle.ci_machine_laws.proofs.Prelude.{has_from_contains, has_map, map_has, in_either, has_all, put_all, created_state, IsNew, new_are, needs_are, jobs_behind}
use Rattle.ci_machine_steps.specs.Prelude.{without_pipeline, BoardRow, Job, Need, RowChange, NewPipeline, Event, Detail, State, job_cmp, need_cmp, Layout, IsLaidOut, misread}
use Rattle.ci_machine_steps.specs.Prelude.{unplanned, creation, need_of}
use Rattle.ci_machine_laws.proofs.Acts.{IsAct}
use Rattle.ci_machine_laws.proofs.EachNext.{EachNext}
use Rattle.ci_machine_laws.proofs.Linked.{Linked}
use Rattle.ci_graph_layout.specs.Fault as layout
use Rattle.ci_machine_steps.specs.Pipelines as pipelines

-- the pairs of the needs, by the numbers of their jobs
abbrev pub by_numbers : List Need → List (ℕ × ℕ)
by_numbers needs = map (λ w. (w.pred, w.job)) needs

pub record Joined (jobs : List Job) (needs : List Need) : Type 0 where
  pub one_pipeline : (w : Need) (j k : Job) → Has w needs → Has j jobs → Has k jobs → j.id ≡ w.job → k.id ≡ w.pred → j.pipeline ≡ k.pipeline
  pub acyclic : IsAcyclic (by_numbers needs)

-- ---- needs beside those of jobs with lower numbers

-- it is an old need, of jobs below the first new one, or that of a pair
abbrev OldOrNew : ℕ → List Need → List (ℕ × ℕ) → Need → Type 0
OldOrNew first old pairs w = (Has w old × ((w.job < first) × (w.pred < first))) ⊎ ((p : ℕ × ℕ) × (Has p pairs × (w ≡ need_of first p)))

module _ (first : ℕ) (old all : List Need) (pairs : List (ℕ × ℕ)) (which : (w : Need) → Has w all → OldOrNew first old pairs w) where
  record IsOld (i j : ℕ) : Type 0 where
    pair : Contains (by_numbers old) (i, j)
    low_first : i < first
    low_second : j < first

  record IsOfPair (i j : ℕ) : Type 0 where
    pair : ℕ × ℕ
    has : Has pair pairs
    is_first : i ≡ first + pair.0
    is_second : j ≡ first + pair.1

  one : (i j : ℕ) → Contains (by_numbers all) (i, j) → IsOld i j ⊎ IsOfPair i j
  one i j c =
      let numbers : Need → ℕ × ℕ = λ w. (w.pred, w.job) in
      let at = map_has numbers (i, j) all (has_from_contains (i, j) (by_numbers all) c) in
      let w = at.0 in
      let is : numbers w ≡ (i, j) = at.1.1 in
      let is_pred : w.pred ≡ i = ap (λ (p : ℕ × ℕ). p.0) is in
      let is_job : w.job ≡ j = ap (λ (p : ℕ × ℕ). p.1) is in
      ⊎_elim
      (λ o. inl (record {
        pair = contains_from_has (i, j) (by_numbers old) (subst (λ (p : ℕ × ℕ). Has p (by_numbers old)) is (has_map numbers w old o.0));
        low_first = subst (λ n. n < first) is_pred o.1.1;
        low_second = subst (λ n. n < first) is_job o.1.0;
      }))
      (λ n. inr (record {
        pair = n.0;
        has = n.1.0;
        is_first = sym is_pred ∙ ap (λ (v : Need). v.pred) n.1.1;
        is_second = sym is_job ∙ ap (λ (v : Need). v.job) n.1.1;
      }))
      (which w at.1.0)

  -- a walk from an old job goes by old ones
  old_walk : (i : ℕ) (ks : List ℕ) (j : ℕ) → i < first → IsWalk (by_numbers all) i ks j → IsWalk (by_numbers old) i ks j
  old_walk i [] j l c = ⊎_elim (λ o. o.pair) (λ n. absurd (let e : i ≡ first + n.pair.0 = n.is_first in omega arith)) (one i j c)
  old_walk i (k ∷ ks) j l w =
      ⊎_elim (λ o. (o.pair, old_walk k ks j o.low_second w.1)) (λ n. absurd (let e : i ≡ first + n.pair.0 = n.is_first in omega arith)) (one i k w.0)

  -- a walk from a new job goes by the pairs
  record NewWalk (a j : ℕ) : Type 0 where
    end : ℕ
    walk : HasWalk pairs a end
    is_end : j ≡ first + end

  new_walk : (a : ℕ) (ks : List ℕ) (i j : ℕ) → i ≡ first + a → IsWalk (by_numbers all) i ks j → NewWalk a j
  new_walk a [] i j e c =
      ⊎_elim
      (λ o. absurd (let l : i < first = o.low_first in omega arith))
      (λ n. let f : i ≡ first + n.pair.0 = n.is_first in
      let same : n.pair.0 ≡ a = omega arith in
      record { end = n.pair.1; walk = ([], subst (λ x. Contains pairs (x, n.pair.1)) same (contains_from_has n.pair pairs n.has)); is_end = n.is_second })
      (one i j c)
  new_walk a (k ∷ ks) i j e w =
      ⊎_elim
      (λ o. absurd (let l : i < first = o.low_first in omega arith))
      (λ n. let f : i ≡ first + n.pair.0 = n.is_first in
      let same : n.pair.0 ≡ a = omega arith in
      let rest = new_walk n.pair.1 ks k j n.is_second w.1 in
      record {
        end = rest.end;
        walk = (n.pair.1 ∷ rest.walk.0, (subst (λ x. Contains pairs (x, n.pair.1)) same (contains_from_has n.pair pairs n.has), rest.walk.1));
        is_end = rest.is_end;
      })
      (one i k w.0)

  start : (i : ℕ) (ks : List ℕ) (j : ℕ) → IsWalk (by_numbers all) i ks j → (i < first) ⊎ ((a : ℕ) × (i ≡ first + a))
  start i [] j c = ⊎_elim (λ o. inl o.low_first) (λ n. inr (n.pair.0, n.is_first)) (one i j c)
  start i (k ∷ ks) j w = ⊎_elim (λ o. inl o.low_first) (λ n. inr (n.pair.0, n.is_first)) (one i k w.0)

  no_circle : IsAcyclic (by_numbers old) → IsAcyclic pairs → IsAcyclic (by_numbers all)
  no_circle none_old none_new circle =
      let i = circle.0 in
      let ks = circle.1.0 in
      let walk = circle.1.1 in
      ⊎_elim
      (λ l. none_old (i, (ks, old_walk i ks i l walk)))
      (λ a. let n = new_walk a.0 ks i i a.1 walk in
      let e : i ≡ first + a.0 = a.1 in
      let f : i ≡ first + n.end = n.is_end in
      let same : n.end ≡ a.0 = omega arith in
      none_new (a.0, subst (HasWalk pairs a.0) same n.walk))
      (start i ks i walk)

-- ---- a new pipeline

abbrev PlanIsAcyclic : Result layout.Plan GraphCode → Type 0
PlanIsAcyclic (Ok p) = IsAcyclic p.pairs
PlanIsAcyclic (Err code) = Unit {0}

plan_acyclic : (g : Given) (c : Config) (r : Result layout.Plan GraphCode) → Plans g c r → PlanIsAcyclic r
plan_acyclic g c _ (faulty code e) = tt
plan_acyclic g c _ (cyclic e h) = tt
plan_acyclic g c _ (layout.planned e a) = a

abbrev LaidIsAcyclic : Result Layout Detail → Type 0
LaidIsAcyclic (Ok laid) = IsAcyclic laid.plan.pairs
LaidIsAcyclic (Err d) = Unit {0}

laid_acyclic : (text : List ℕ) (g : Given) (r : Result Layout Detail) → IsLaidOut text g r → LaidIsAcyclic r
laid_acyclic text g _ (misread d is) = tt
laid_acyclic text g _ (unplanned c code is plan) = tt
laid_acyclic text g _ (pipelines.planned c p is plan) = plan_acyclic g c (Ok p) plan

enters : (s : State) (new : NewPipeline) (given : Given) (now : ℕ) (text : List ℕ) (laid : Layout) → Linked s → Joined s.jobs s.needs → IsLaidOut text given (Ok laid)
    → let t = created_state s.next.job (creation s.next.pipeline s.next.job new given now laid) s in Joined t.jobs t.needs
enters s new given now text laid i was lays =
    let first = s.next.job in
    let made = creation s.next.pipeline first new given now laid in
    let t = created_state first made s in
    let is = laid.plan.jobs in
    let jobs : t.jobs ≡ s.jobs ++ made.jobs = jobs_behind s is i.job_below in
    let cases : (j : Job) → Has j t.jobs → Has j s.jobs ⊎ IsNew s.next.pipeline first (0 + length is) is j
    = λ j k. ⊎_elim (λ m. inl m) (λ m. inr (new_are s.next.pipeline first 0 is j m)) (in_either j s.jobs made.jobs (subst (Has j) jobs k)) in
    let below : (n : ℕ) → (x : Job) × (Has x s.jobs × (x.id ≡ n)) → n < first
    = λ n x. subst (λ m. m < first) x.1.1 (i.job_below x.0 x.1.0) in
    let which : (w : Need) → Has w t.needs → OldOrNew first s.needs laid.plan.pairs w
    = λ w k. ⊎_elim
    (λ m. inl (m, (below w.job (i.need_job w m), below w.pred (i.need_pred w m))))
    (λ m. ⊎_elim (λ e. absurd e) (λ q. inr q) (needs_are first laid.plan.pairs [] w m))
    (has_all need_cmp made.needs s.needs w k) in
    -- a job below the first new one is old, and one that isn't is of the new pipeline
    let is_old : (j : Job) (n : ℕ) → Has j t.jobs → j.id ≡ n → n < first → Has j s.jobs
    = λ j n k e l. ⊎_elim (λ m. m) (λ w. absurd (let a : first ≤ j.id = w.above in omega arith)) (cases j k) in
    let is_new : (j : Job) (n : ℕ) → Has j t.jobs → j.id ≡ first + n → j.pipeline ≡ s.next.pipeline
    = λ j n k e. ⊎_elim (λ m. absurd (let l : j.id < first = i.job_below j m in omega arith)) (λ w. ap (λ (v : Job). v.pipeline) w.job) (cases j k) in
    record {
      one_pipeline = λ w j k hw hj hk ej ek.
          ⊎_elim
          (λ o. was.one_pipeline w j k o.0 (is_old j w.job hj ej o.1.0) (is_old k w.pred hk ek o.1.1) ej ek)
          (λ n. is_new j n.0.1 hj (ej ∙ ap (λ (v : Need). v.job) n.1.1) ∙ sym (is_new k n.0.0 hk (ek ∙ ap (λ (v : Need). v.pred) n.1.1)))
          (which w hw);
      acyclic = no_circle first s.needs t.needs laid.plan.pairs which was.acyclic (laid_acyclic text given (Ok laid) lays);
    }

-- ---- a user acts on jobs

acts : (s : State) (changes : List RowChange) (act : IsAct s changes) → Joined s.jobs s.needs → Joined (put_all job_cmp act.jobs s.jobs) s.needs
acts s changes act was =
    let old : (j : Job) → Has j (put_all job_cmp act.jobs s.jobs) → (x : Job) × (Has x s.jobs × ((j.id ≡ x.id) × (j.pipeline ≡ x.pipeline)))
    = λ j k. ⊎_elim
    (λ m. (j, (m, (refl, refl))))
    (λ m. let w = act.each_job j m in (w.old, (w.has, (ap (λ (v : Job). v.id) w.good, ap (λ (v : Job). v.pipeline) w.good))))
    (has_all job_cmp act.jobs s.jobs j k) in
    record {
      one_pipeline = λ w j k hw hj hk ej ek.
          let x = old j hj in
          let y = old k hk in
          x.1.1.1 ∙ (was.one_pipeline w x.0 y.0 hw x.1.0 y.1.0 (sym x.1.1.0 ∙ ej) (sym y.1.1.0 ∙ ek) ∙ sym y.1.1.1);
      acyclic = was.acyclic;
    }

-- ---- some of the jobs and of the needs

module _ (needs some : List Need) (had : (w : Need) → Has w some → Has w needs) where
  one_pair : (i j : ℕ) → Contains (by_numbers some) (i, j) → Contains (by_numbers needs) (i, j)
  one_pair i j c =
      let numbers : Need → ℕ × ℕ = λ w. (w.pred, w.job) in
      let at = map_has numbers (i, j) some (has_from_contains (i, j) (by_numbers some) c) in
      contains_from_has (i, j) (by_numbers needs) (subst (λ (p : ℕ × ℕ). Has p (by_numbers needs)) at.1.1 (has_map numbers at.0 needs (had at.0 at.1.0)))

  some_walk : (i : ℕ) (ks : List ℕ) (j : ℕ) → IsWalk (by_numbers some) i ks j → IsWalk (by_numbers needs) i ks j
  some_walk i [] j c = one_pair i j c
  some_walk i (k ∷ ks) j w = (one_pair i k w.0, some_walk k ks j w.1)

  leaves : (jobs left : List Job) → ((j : Job) → Has j left → Has j jobs) → Joined jobs needs → Joined left some
  leaves jobs left were is = record {
    one_pipeline = λ w j k hw hj hk ej ek. is.one_pipeline w j k (had w hw) (were j hj) (were k hk) ej ek;
    acyclic = λ c. is.acyclic (c.0, (c.1.0, some_walk c.0 c.1.0 c.0 c.1.1));
  }

-- ---- each step

left : (s : State) (n : ℕ) → Joined s.jobs s.needs → let t = without_pipeline s n in Joined t.jobs t.needs
left s n was = leaves s.needs _ (λ w k. (has_filter _ w s.needs k).0) s.jobs _ (λ j k. (has_filter _ j s.jobs k).0) was

pub joined_on : (s : State) (board : List BoardRow) (e : Event) → Linked s → Joined s.jobs s.needs → EachNext s board e (λ _ t. Joined t.jobs t.needs)
joined_on s board e i was = search (rules, enters, acts, left)

no_walk : (i : ℕ) (ks : List ℕ) (j : ℕ) → IsWalk [] i ks j → ⊥
no_walk i [] j c = has_from_contains (i, j) [] c
no_walk i (k ∷ ks) j w = has_from_contains (i, k) [] w.0

-- where nothing is
pub joined_none : Joined [] []
joined_none = record { one_pipeline = λ w j k hw hj hk ej ek. absurd hw; acyclic = λ c. no_walk c.0 c.1.0 c.0 c.1.1 }
