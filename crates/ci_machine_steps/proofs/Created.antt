-- What the changes of a creation lead to, and what its records are.
use Rattle.std.proofs.Common.{◌≡◌, ◌⊎◌, ℕ, suc, ◌+◌, ◌<◌, ◌≤◌, List, [], ◌∷◌, ◌++◌, length, map, filter, nat_lt, Option, Some, None, Result, Ok, Err, refl, sym, ap, subst, ◌∙◌}
use Rattle.std.proofs.Common.{inl, inr, ⊎_elim, arith, ltb-true}
use Rattle.std.specs.Cmp.{IsTotalOrder}
use Rattle.std.proofs.lemmas.Cmp.{nat_cmp_total, on_total, then_total}
use Rattle.std.proofs.lemmas.Bool.{cond_both, ltb-false}
use Rattle.ci_config.specs.Config as config
use Rattle.ci_graph_layout.specs.Prelude.{Text, Config, Given, Decided, decided, decided_job, IncludedJob, by_rules, included, all_included, is_of, by_stage, lineup, pairs, Plan, Plans, faulty, cyclic, planned}
use Rattle.ci_machine.specs.Prelude.{AreWithin}
use Rattle.ci_graph_layout.proofs.Within.{pairs_within}
use Rattle.ci_graph_layout.specs.Layout as layout
use Rattle.ci_graph_layout.specs.declared.fault.GraphCode.{GraphCode}
use Rattle.ci_machine_steps.specs.Prelude.{Job, JobVariable, Need, RowChange, Put, Record, Counter, Detail, State, put, pipeline_cmp, job_cmp, job_variable_cmp, need_cmp, applied}
use Rattle.ci_machine_steps.specs.Prelude.{changed, IsRead, Layout, IsLaidOut, misread, unplanned, new_job, new_jobs, need_of, put_needs, Creation, creation_changes}
use Rattle.ci_machine_steps.specs.Pipelines as pipelines
use Rattle.ci_machine.proofs.Keyed.{Has, Rising, Below, rising_from, has_put, has_filter, map_has, has_from_all}
use Rattle.ci_machine_steps.proofs.Behind.{in_either, put_all, all_behind, rising_ordered, nat_less}
use Rattle.ci_machine_steps.proofs.Variables.{Ordered, put_ordered}

-- ---- the changes

pub applied_append : (xs ys : List RowChange) (s : State) → applied (xs ++ ys) s ≡ applied ys (applied xs s)
applied_append [] ys s = refl
applied_append (c ∷ cs) ys s = applied_append cs ys (changed c s)

jobs_put : (js : List Job) (s : State) → applied (map (λ j. Put (Record.Job j)) js) s ≡ record s { jobs = put_all job_cmp js s.jobs }
jobs_put [] s = refl
jobs_put (j ∷ js) s = jobs_put js (record s { jobs = put job_cmp j s.jobs })

variables_put : (vs : List JobVariable) (s : State) → applied (map (λ v. Put (Record.JobVariable v)) vs) s ≡ record s { job_variables = put_all job_variable_cmp vs s.job_variables }
variables_put [] s = refl
variables_put (v ∷ vs) s = variables_put vs (record s { job_variables = put job_variable_cmp v s.job_variables })

needs_put : (ws : List Need) (s : State) → applied (map (λ w. Put (Record.Need w)) ws) s ≡ record s { needs = put_all need_cmp ws s.needs }
needs_put [] s = refl
needs_put (w ∷ ws) s = needs_put ws (record s { needs = put need_cmp w s.needs })

-- the state with these records in their places, and the numbers behind them
abbrev pub created_state : ℕ → Creation → State → State
created_state first made s = record s {
  pipelines = put pipeline_cmp made.pipeline s.pipelines;
  jobs = put_all job_cmp made.jobs s.jobs;
  job_variables = put_all job_variable_cmp made.variables s.job_variables;
  needs = put_all need_cmp made.needs s.needs;
  next = record s.next { pipeline = made.pipeline.id + 1; job = first + length made.jobs };
}

pub after_creation : (first : ℕ) (made : Creation) (s : State) → applied (creation_changes first made) s ≡ created_state first made s
after_creation first made s =
    let js = map (λ (j : Job). Put (Record.Job j)) made.jobs in
    let vs = map (λ (v : JobVariable). Put (Record.JobVariable v)) made.variables in
    let ws = map (λ (w : Need). Put (Record.Need w)) made.needs in
    let m = applied (Put (Record.Pipeline made.pipeline) ∷ Put (Record.Next Counter.Pipeline (made.pipeline.id + 1)) ∷ Put (Record.Next Counter.Job (first + length made.jobs)) ∷ []) s in
    applied_append js (vs ++ ws) m
    ∙ (ap (applied (vs ++ ws)) (jobs_put made.jobs m)
    ∙ (applied_append vs ws (record m { jobs = put_all job_cmp made.jobs m.jobs })
    ∙ (ap (applied ws) (variables_put made.variables (record m { jobs = put_all job_cmp made.jobs m.jobs }))
    ∙ needs_put made.needs (record m { jobs = put_all job_cmp made.jobs m.jobs; job_variables = put_all job_variable_cmp made.variables m.job_variables }))))

-- ---- the jobs

pub new_rise : (id first position : ℕ) (is : List IncludedJob) → Rising (λ (j : Job). j.id) (first + position) (new_jobs id first position is)
new_rise id first position [] = tt
new_rise id first position (i ∷ is) = (omega arith, let r = new_rise id first (position + 1) is in subst (λ n. Rising (λ (j : Job). j.id) n (new_jobs id first (position + 1) is)) (let z : first + (position + 1) ≡ first + position + 1 = omega arith in z) r)

pub new_length : (id first position : ℕ) (is : List IncludedJob) → length (new_jobs id first position is) ≡ length is
new_length id first position [] = refl
new_length id first position (i ∷ is) = ap suc (new_length id first (position + 1) is)

-- what a new job is
pub record IsNew (id first n : ℕ) (is : List IncludedJob) (j : Job) : Type 0 where
  pub as_said : IncludedJob
  pub has : Has as_said is
  pub job : j ≡ new_job id first j.position as_said
  pub above : first ≤ j.id
  pub below : j.id < first + n

pub new_are : (id first position : ℕ) (is : List IncludedJob) (j : Job) → Has j (new_jobs id first position is) → IsNew id first (position + length is) is j
new_are id first position [] j h = absurd h
new_are id first position (i ∷ is) j h =
    ⊎_elim
    (λ e. let p : j.position ≡ position = ap (λ (w : Job). w.position) e in let d : j.id ≡ first + position = ap (λ (w : Job). w.id) e in record {
      as_said = i;
      has = inl refl;
      job = e ∙ ap (λ q. new_job id first q i) (sym p);
      above = omega arith;
      below = omega arith;
    })
    (λ m. let w = new_are id first (position + 1) is j m in record {
      as_said = w.as_said;
      has = inr w.has;
      job = w.job;
      above = w.above;
      below = let l = w.below in omega arith;
    })
    h

equal_or_more : (p q : ℕ) → p ≤ q → (p ≡ q) ⊎ (p + 1 ≤ q)
equal_or_more p q le =
    cond_both (nat_lt p q) 0 0 (λ (_ : ℕ). (p ≡ q) ⊎ (p + 1 ≤ q)) (λ e. inr (let z : p < q = ltb-true p q e in omega arith)) (λ e. inl (let z : q ≤ p = ltb-false p q e in omega arith))

-- each number in its range is that of a job
pub new_numbered : (id first position : ℕ) (is : List IncludedJob) (k : ℕ) → position ≤ k → k < position + length is → (j : Job) × (Has j (new_jobs id first position is) × (j.id ≡ first + k))
new_numbered id first position [] k l m = absurd (omega arith)
new_numbered id first position (i ∷ is) k l m =
    ⊎_elim
    (λ e. (new_job id first position i, (inl refl, ap (λ n. first + n) e)))
    (λ z. let w = new_numbered id first (position + 1) is k z (omega arith) in (w.0, (inr w.1.0, w.1.1)))
    (equal_or_more position k l)

-- ---- the needs

need_total : IsTotalOrder need_cmp
need_total = then_total (on_total (λ (w : Need). w.job) nat_cmp_total) (on_total (λ (w : Need). w.pred) nat_cmp_total)

pub needs_ordered : (first : ℕ) (ps : List (ℕ × ℕ)) (ns : List Need) → Ordered need_cmp ns → Ordered need_cmp (put_needs first ps ns)
needs_ordered first [] ns o = o
needs_ordered first (p ∷ ps) ns o = needs_ordered first ps (put need_cmp (need_of first p) ns) (put_ordered need_cmp need_total (need_of first p) ns o)

pub needs_are : (first : ℕ) (ps : List (ℕ × ℕ)) (ns : List Need) (w : Need) → Has w (put_needs first ps ns) → Has w ns ⊎ ((p : ℕ × ℕ) × (Has p ps × (w ≡ need_of first p)))
needs_are first [] ns w h = inl h
needs_are first (p ∷ ps) ns w h =
    ⊎_elim
    (λ m. ⊎_elim (λ e. inr (p, (inl refl, e))) (λ k. inl k) (has_put need_cmp (need_of first p) w ns m))
    (λ q. inr (q.0, (inr q.1.0, q.1.1)))
    (needs_are first ps (put need_cmp (need_of first p) ns) w h)

-- ---- what a file lays out

-- the jobs and the pairs are those of the file
abbrev pub PlanIs : Given → Config → Result Plan GraphCode → Type 0
PlanIs g c (Ok p) = (p.jobs ≡ lineup g c) × (p.pairs ≡ pairs c.stages (lineup g c))
PlanIs g c (Err code) = Unit {0}

plan_is : (g : Given) (c : Config) (r : Result Plan GraphCode) → Plans g c r → PlanIs g c r
plan_is g c _ (faulty code e) = tt
plan_is g c _ (cyclic e h) = tt
plan_is g c _ (planned e a) = (refl, refl)

abbrev pub LaidIs : List ℕ → Given → Result Layout Detail → Type 0
LaidIs text g (Ok laid) = IsRead text (Ok laid.config) × PlanIs g laid.config (Ok laid.plan)
LaidIs text g (Err d) = Unit {0}

pub laid_is : (text : List ℕ) (g : Given) (r : Result Layout Detail) → IsLaidOut text g r → LaidIs text g r
laid_is text g _ (misread d is) = tt
laid_is text g _ (unplanned c code is plan) = tt
laid_is text g _ (pipelines.planned c p is plan) = (is, plan_is g c (Ok p) plan)

-- a job of the lineup is of the file, and included
has_put_some : {A : Type 0} (x : A) (o : Option A) (xs : List A) → Has x (layout.put o xs) → (o ≡ Some x) ⊎ Has x xs
has_put_some x None xs h = inr h
has_put_some x (Some y) xs h = ⊎_elim (λ e. inl (ap (λ w. Some w) (sym e))) (λ m. inr m) h

all_included_are : (ds : List Decided) (i : IncludedJob) → Has i (all_included ds) → (d : Decided) × (Has d ds × (by_rules d.job d.decision ≡ Some i))
all_included_are [] i h = absurd h
all_included_are (d ∷ ds) i h =
    ⊎_elim (λ e. (d, (inl refl, e))) (λ m. let w = all_included_are ds i m in (w.0, (inr w.1.0, w.1.1))) (has_put_some i (by_rules d.job d.decision) (all_included ds) h)

stage_are : (ds : List Decided) (stages : List Text) (i : IncludedJob) → Has i (by_stage ds stages) → (d : Decided) × (Has d ds × (by_rules d.job d.decision ≡ Some i))
stage_are ds [] i h = absurd h
stage_are ds (stage ∷ stages) i h =
    ⊎_elim
    (λ m. let w = all_included_are (filter (is_of stage) ds) i m in (w.0, ((has_filter (is_of stage) w.0 ds w.1.0).0, w.1.1)))
    (λ m. stage_are ds stages i m)
    (in_either i (all_included (filter (is_of stage) ds)) (by_stage ds stages) h)

pub lineup_are : (g : Given) (c : Config) (i : IncludedJob) → Has i (lineup g c) → (j : config.Job) × (Has j c.jobs × (included g c j ≡ Some i))
lineup_are g c i h =
    let w = stage_are (decided g c) c.stages i h in
    let of = map_has (decided_job g c) w.0 c.jobs w.1.0 in
    (of.0, (of.1.0, subst (λ (d : Decided). by_rules d.job d.decision ≡ Some i) (sym of.1.1) w.1.1))

-- the pairs are of its jobs
pub pairs_inside : (text : List ℕ) (g : Given) (laid : Layout) → IsLaidOut text g (Ok laid) → (p : ℕ × ℕ) → Has p laid.plan.pairs → (p.0 < length laid.plan.jobs) × (p.1 < length laid.plan.jobs)
pairs_inside text g laid lays p h =
    let is = (laid_is text g (Ok laid) lays).1 in
    let count = length laid.plan.jobs in
    has_from_all (λ (q : ℕ × ℕ). (q.0 < count) × (q.1 < count)) p laid.plan.pairs
    (subst (λ (ps : List (ℕ × ℕ)). AreWithin count ps) (sym is.1)
    (subst (λ (js : List IncludedJob). AreWithin (length js) (pairs laid.config.stages (lineup g laid.config))) (sym is.0) (pairs_within laid.config.stages (lineup g laid.config)))) h

-- its jobs come behind all others
pub jobs_behind : (s : State) (is : List IncludedJob) → Below (λ (j : Job). j.id) s.next.job s.jobs
    → put_all job_cmp (new_jobs s.next.pipeline s.next.job 0 is) s.jobs ≡ s.jobs ++ new_jobs s.next.pipeline s.next.job 0 is
jobs_behind s is below =
    let js = new_jobs s.next.pipeline s.next.job 0 is in
    let rise = new_rise s.next.pipeline s.next.job 0 is in
    all_behind job_cmp js s.jobs (rising_ordered (λ (j : Job). j.id) (s.next.job + 0) js rise)
    (λ r k y m. nat_less y.id r.id (let a : y.id < s.next.job = below y m in let b : s.next.job + 0 ≤ r.id = rising_from (λ (j : Job). j.id) r (s.next.job + 0) js rise k in omega arith))
