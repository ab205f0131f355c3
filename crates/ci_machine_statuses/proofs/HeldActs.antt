-- A user's act: the groups of the leases that it ends are free, and its pipeline may turn.
use Rattle.std.proofs.Common.{◌≡◌, ℕ, Bool, true, false, ◌==◌, List, map, Option, Some, None, option_map, refl, sym, ap, subst, ◌∙◌, ⊎_elim}
use Rattle.std.proofs.lemmas.Bool.{cond-true, cond-false, cases_Bool, false≢true, and_parts}
use Rattle.ci_machine_steps.specs.Prelude.{Status, Attempt, BoardRow, Job, Need, Pipeline, State, Kept, written, jobs_of, AreBoard, status_of_jobs, is_live}
use Rattle.ci_machine_steps.specs.Prelude.{job_at, pipeline_at, project_or_none, queued, is_lease_on, is_job_among, cancelled_attempt, group_held, held_by, with_status}
use Rattle.ci_machine_steps.specs.Prelude.{AreIndexes}
use Rattle.ci_machine.proofs.Keyed.{Has, has_filter, has_map, map_has}
use Rattle.ci_machine_steps.proofs.Sound.{Sound}
use Rattle.ci_machine_statuses.specs.declared.act.Act.{Act}
use Rattle.ci_machine_statuses.specs.declared.act.Act.TheVariants.{Cancel}
use Rattle.ci_machine_statuses.specs.declared.outcome.Outcome.{Outcome}
use Rattle.ci_machine_statuses.specs.Acts.{act_changes, is_acted_on, acted_jobs, acted_state, IsOutcome}
use Rattle.ci_machine_statuses.specs.Changes.{IsWithin}
use Rattle.ci_machine_statuses.specs.Lookups.{AreRecords}
use Rattle.ci_machine_statuses.specs.HolderChanges.{of_pipeline, unleased}
use Rattle.ci_machine_statuses.proofs.Puts.{attempt_id}
use Rattle.ci_machine_statuses.proofs.ActFacts.{after_is, within, done_to, of_job, gone, new_attempt, keeps, t as after_act}
use Rattle.ci_machine_statuses.proofs.HeldLists.{find_mapped}
use Rattle.ci_machine_statuses.proofs.Holding.{Ends}
use Rattle.ci_machine_statuses.proofs.HeldChanged.{indexed_again}

pub unleased_among : (act : Act) (jobs : List Job) (j : Job) → Has j (unleased act jobs) → Has j jobs
unleased_among Cancel jobs j h = h
unleased_among _ jobs j h = absurd h

module _ (s : State) (act : Act) (n : ℕ) (test : Job → Bool) (sound : Sound s) where
  abbrev t : State
  t = after_act s act n test sound

  abbrev leaves : Attempt → Bool
  leaves = gone s act n test sound

  abbrev now : Attempt → Attempt
  now = new_attempt s act n test sound

  stays : (a : Attempt) → leaves a ≡ false → now a ≡ a
  stays a e = cond-false (leaves a) (cancelled_attempt a) a e

  dead : (a : Attempt) → is_live (now a) ≡ true → leaves a ≡ false
  dead a l = ⊎_elim (λ e. absurd (false≢true (ap is_live (sym (cond-true (leaves a) (cancelled_attempt a) a e)) ∙ l))) (λ e. e) (cases_Bool (leaves a))

  -- a job's group and project stay
  same_held : (m : ℕ) (o : Option Job) → held_by m (option_map (queued t) (option_map (of_job s act n test sound) o)) ≡ held_by m (option_map (queued s) o)
  same_held m None = refl
  same_held m (Some j) =
      let pipeline : (of_job s act n test sound j).pipeline ≡ j.pipeline = keeps s act n test sound (λ i. i.pipeline) (λ i a b c. refl) j in
      let group : (of_job s act n test sound j).options.resource_group ≡ j.options.resource_group = keeps s act n test sound (λ i. i.options.resource_group) (λ i a b c. refl) j in
      λ i. group_held m (project_or_none (pipeline_at s (pipeline i))) (group i)

  found : (m : ℕ) → job_at t m ≡ option_map (of_job s act n test sound) (job_at s m)
  found m = find_mapped (λ (j : Job). j.id == m) (of_job s act n test sound) s.jobs (keeps s act n test sound (λ i. i.id == m) (λ i a b c. refl))

  pub ends : Ends s (after_act s act n test sound) (gone s act n test sound)
  ends = record {
    lives = λ a e. (and_parts (is_live a) (is_job_among (unleased act (done_to s act n test sound)) a.job) e).0;
    stay = λ a h l e. record { attempt = a; has = subst (λ (b : Attempt). Has b (map now s.attempts)) (stays a e) (has_map now a s.attempts h); id = refl; job = refl; live = l };
    were = λ b h l.
        let w = map_has now b s.attempts h in
        let left = dead w.0 (ap is_live w.1.1 ∙ l) in
        let is : w.0 ≡ b = sym (stays w.0 left) ∙ w.1.1 in
        (record { attempt = w.0; has = w.1.0; id = ap attempt_id is; job = ap (λ (c : Attempt). c.job) is; live = ap is_live is ∙ l }, left);
    held = λ a h live. ap (λ (o : Option Job). held_by a.id (option_map (queued t) o)) (found a.job) ∙ same_held a.id (job_at s a.job);
  }

pub act_indexed : (act : Act) (only : Option ℕ) (k : Kept) (p : Pipeline) (jobs : List Job) (needs : List Need) (attempts : List Attempt) (rows : List BoardRow) (o : Outcome) (before after : Status)
    → Sound k.state → AreBoard k.state k.board → AreIndexes k → Has p k.state.pipelines → AreRecords k.state k.board p.id jobs needs attempts rows → IsOutcome act only k.state k.board p.id o
    → before ≡ (with_status k.state k.board p).status → after ≡ status_of_jobs jobs o.facts.items o.rows.items
    → AreIndexes (written (act_changes act k.state (acted_jobs act only k.state k.board p.id)) o.changed.items (of_pipeline p (unleased act (acted_jobs act only k.state k.board p.id)) attempts before after) k)
act_indexed act only k p jobs needs attempts rows o before after sound are indexes has records outcome was is =
    let s : State = k.state in
    let test : Job → Bool = is_acted_on act only k.board in
    let chosen : List Job = acted_jobs act only s k.board p.id in
    let t : State = acted_state act only s k.board p.id in
    let same : t ≡ after_act s act p.id test sound = after_is s act p.id test sound in
    indexed_again k t p sound has jobs needs attempts rows records (unleased act chosen)
    (λ j h. subst (λ (js : List Job). Has j js) (sym records.are_jobs) (has_filter test j (jobs_of s p.id) (unleased_among act chosen j h)).0)
    are indexes (subst (λ (w : State). IsWithin s w p.id) (sym same) (within s act p.id test sound)) (ap (λ (w : State). w.pipelines) same)
    (subst (λ (w : State). Ends s w (is_lease_on (unleased act chosen))) (sym same) (ends s act p.id test sound))
    o.facts.items o.rows.items o.changed.items outcome.facts outcome.rows outcome.differing before after was is
