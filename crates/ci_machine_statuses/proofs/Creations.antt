-- A pipeline that is created is made.
use Rattle.std.proofs.Common.{◌≡◌, ℕ, ◌+◌, ◌<◌, ◌≤◌, false, List, [], ◌∷◌, ◌++◌, length, map, Contains, Ok, nat_cmp, refl, sym, ap, subst, ◌∙◌, ⊎_elim, arith}
use Rattle.std.specs.Ordering.{ordering_then}
use Rattle.ci_graph_layout.specs.Prelude.{Given}
use Rattle.ci_machine_steps.specs.Prelude.{Job, Need, Pipeline, NewPipeline, State, need_cmp, applied, Layout, IsLaidOut, need_of, Creation, creation, creation_changes}
use Rattle.ci_machine.proofs.Keyed.{Has, Rising, rising_from, All-from_has, contains_named}
use Rattle.ci_machine_steps.proofs.Behind.{put_all, all_behind, nat_less}
use Rattle.ci_machine_steps.proofs.Created.{after_creation, new_rise, new_are, new_numbered, needs_ordered, needs_are, pairs_inside, jobs_behind}
use Rattle.ci_machine_steps.proofs.Sound.{Sound, ascend_from_rising}
use Rattle.ci_machine_statuses.specs.Changes.{IsMade}
use Rattle.ci_machine_statuses.proofs.Puts.{number, put_last}

-- a pipeline is made behind all others
pub record Created (s : State) (c : Creation) : Type 0 where
  pub below : (q : Pipeline) → Has q s.pipelines → q.id < c.pipeline.id
  pub pipelines : (applied (creation_changes s.next.job c) s).pipelines ≡ s.pipelines ++ c.pipeline ∷ []
  pub made : IsMade s (applied (creation_changes s.next.job c) s) c.pipeline.id c.jobs c.needs

module _ (s : State) (new : NewPipeline) (given : Given) (now : ℕ) (text : List ℕ) (laid : Layout) (sound : Sound s) (lays : IsLaidOut text given (Ok laid)) where
  abbrev its : Creation
  its = creation s.next.pipeline s.next.job new given now laid

  rise : Rising (λ j. j.id) s.next.job its.jobs
  rise = subst (λ n. Rising number n its.jobs) (let e : s.next.job + 0 ≡ s.next.job = omega arith in e) (new_rise s.next.pipeline s.next.job 0 laid.plan.jobs)

  -- each need is of two of its jobs
  of_two : (w : Need) → Has w its.needs → (p : ℕ × ℕ) × (Has p laid.plan.pairs × (w ≡ need_of s.next.job p))
  of_two w h = ⊎_elim (λ e. absurd e) (λ q. q) (needs_are s.next.job laid.plan.pairs [] w h)

  need_behind : (w : Need) → Has w its.needs → s.next.job ≤ w.job
  need_behind w h = let q = of_two w h in let e : w.job ≡ s.next.job + q.0.1 = ap (λ (v : Need). v.job) q.1.1 in omega arith

  needs_behind : put_all need_cmp its.needs s.needs ≡ s.needs ++ its.needs
  needs_behind =
      all_behind need_cmp its.needs s.needs (needs_ordered s.next.job laid.plan.pairs [] tt)
      (λ r k y m.
      let there = sound.need_job y m in
      let below : there.0.id < s.next.job = sound.job_below there.0 there.1.0 in
      let same : there.0.id ≡ y.job = there.1.1 in
      let behind : s.next.job ≤ r.job = need_behind r k in
      ap (λ o. ordering_then o (nat_cmp y.pred r.pred)) (nat_less y.job r.job (omega arith)))

  pub made : (c : Creation) → c ≡ creation s.next.pipeline s.next.job new given now laid → IsMade s (applied (creation_changes s.next.job c) s) s.next.pipeline c.jobs c.needs
  made c is = subst (λ (x : Creation). IsMade s (applied (creation_changes s.next.job x) s) s.next.pipeline x.jobs x.needs) (sym is) (record {
    unused = All-from_has (λ j. j.pipeline ≡ s.next.pipeline → ⊥) s.jobs (λ j h e. let w = sound.job_pipeline j h in let l : w.0.id < s.next.pipeline = sound.pipeline_below w.0 w.1.0 in let q : w.0.id ≡ j.pipeline = w.1.1 in omega arith);
    all_jobs = ap (λ (t : State). t.jobs) (after_creation s.next.job its s) ∙ jobs_behind s laid.plan.jobs sound.job_below;
    all_needs = ap (λ (t : State). t.needs) (after_creation s.next.job its s) ∙ needs_behind;
    same_attempts = ap (λ (t : State). t.attempts) (after_creation s.next.job its s);
    ascend = ascend_from_rising number s.next.job its.jobs rise;
    behind = All-from_has (λ j. s.next.job ≤ j.id) its.jobs (λ j h. rising_from number j s.next.job its.jobs rise h);
    within = All-from_has (λ j. j.pipeline ≡ s.next.pipeline) its.jobs (λ j h. ap (λ (w : Job). w.pipeline) (new_are s.next.pipeline s.next.job 0 laid.plan.jobs j h).job);
    idle = All-from_has (λ j. (j.cancelled ≡ false) × (j.played ≡ false)) its.jobs (λ j h. let e = (new_are s.next.pipeline s.next.job 0 laid.plan.jobs j h).job in (ap (λ (w : Job). w.cancelled) e, ap (λ (w : Job). w.played) e));
    among = All-from_has (λ w. Contains (map (λ j. j.id) its.jobs) w.job) its.needs (λ w h.
        let q = of_two w h in
        let j = new_numbered s.next.pipeline s.next.job 0 laid.plan.jobs q.0.1 (omega arith) (let l : q.0.1 < length laid.plan.jobs = (pairs_inside text given laid lays q.0 q.1.0).1 in omega arith) in
        contains_named number w.job its.jobs (j.0, (j.1.0, j.1.1 ∙ sym (ap (λ (v : Need). v.job) q.1.1))));
  })

  pub created : (c : Creation) → c ≡ creation s.next.pipeline s.next.job new given now laid → Created s c
  created c is = subst (Created s) (sym is) (record {
    below = λ q h. sound.pipeline_below q h;
    pipelines = ap (λ (t : State). t.pipelines) (after_creation s.next.job its s) ∙ put_last (λ (q : Pipeline). q.id) its.pipeline s.pipelines (λ q h. sound.pipeline_below q h);
    made = made its refl;
  })
