-- The end of an attempt: its group is free, and its pipeline may be finished.
use Rattle.std.proofs.Common.{◌≡◌, Bool, true, false, ◌==◌, ◌||◌, ◌&&◌, List, [], ◌∷◌, Some, refl, sym, ap, subst, ◌∙◌, ⊎_elim, eqb-true, eq-eqb}
use Rattle.std.proofs.lemmas.Bool.{cases_Bool, both_ways, false≢true, and_parts, or_cases}
use Rattle.ci_machine_steps.specs.Prelude.{Status, Attempt, BoardRow, Job, Need, Pipeline, Record, Put, State, attempt_cmp, Kept, written, jobs_of, numbers_of, AreBoard}
use Rattle.ci_machine_steps.specs.Prelude.{status_of_jobs, is_live, is_lease_on, with_status, last_attempt, AreIndexes}
use Rattle.ci_machine.proofs.Keyed.{Has, filter_has, has_map, has_put_other, put_has, one_at, different, unequal, has_from_contains}
use Rattle.ci_machine_steps.proofs.Sound.{Sound}
use Rattle.ci_machine_statuses.specs.Changes.{HasLive}
use Rattle.ci_machine_statuses.specs.Ends.{ended_state, IsSettled}
use Rattle.ci_machine_statuses.specs.Lookups.{AreRecords}
use Rattle.ci_machine_statuses.specs.declared.end.Settled.{Settled}
use Rattle.ci_machine_statuses.proofs.Ends.{within}
use Rattle.ci_machine_statuses.specs.HolderChanges.{of_pipeline}
use Rattle.ci_machine_statuses.proofs.Holding.{Ends}
use Rattle.ci_machine_statuses.proofs.HeldChanged.{indexed_again}
use Rattle.ci_machine_statuses.proofs.Puts.{number, attempt_id}

module _ (k : Kept) (p : Pipeline) (job : Job) (x : Attempt) (sound : Sound k.state) (are : AreBoard k.state k.board) (has : Has p k.state.pipelines) (there : Has job k.state.jobs) (inside : job.pipeline ≡ p.id)
    (its_job : x.job ≡ job.id) (live : HasLive k.state x) (over : is_live x ≡ false) where
  abbrev s : State
  s = k.state

  abbrev t : State
  t = ended_state s x

  abbrev gone : Attempt → Bool
  gone = is_lease_on (job ∷ [])

  abbrev a : Attempt
  a = live.0

  a_has : Has a s.attempts
  a_has = has_from_contains a s.attempts live.1

  -- the live attempt of the job is the one that ends
  the_lease : (b : Attempt) → Has b s.attempts → gone b ≡ true → b ≡ a
  the_lease b h e =
      let w = and_parts (is_live b) ((job.id == b.job) || false) e in
      let same : b.job ≡ a.job = sym (eqb-true job.id b.job (⊎_elim (λ q. q) (λ q. absurd (false≢true q)) (or_cases (job.id == b.job) false w.1))) ∙ (sym its_job ∙ sym live.3) in
      let both : Some b ≡ Some a = sym (sound.live_last b h w.0) ∙ (ap (λ n. last_attempt s n) same ∙ sound.live_last a a_has live.4) in
      cc

  is_gone : gone a ≡ true
  is_gone = λ i. live.4 i && (eq-eqb job.id a.job (sym its_job ∙ sym live.3) i || false)

  ends : Ends s t gone
  ends = record {
    lives = λ b e. (and_parts (is_live b) ((job.id == b.job) || false) e).0;
    stay = λ b h l left. record {
      attempt = b;
      has = put_has attempt_cmp x b s.attempts h (unequal b.id x.id (λ e.
          both_ways (gone b) left (ap gone (one_at attempt_id b a 0 s.attempts sound.attempts h a_has (e ∙ sym live.2)) ∙ is_gone)));
      id = refl;
      job = refl;
      live = l;
    };
    were = λ b h l. ⊎_elim
        (λ e. absurd (both_ways (is_live x) over (ap is_live (sym e) ∙ l)))
        (λ m. (
          record { attempt = b; has = m.0; id = refl; job = refl; live = l },
          ⊎_elim (λ e. absurd (different b.id x.id m.1 (ap attempt_id (the_lease b m.0 e) ∙ live.2))) (λ e. e) (cases_Bool (gone b)),
        ))
        (has_put_other attempt_cmp x b s.attempts h);
    held = λ b h live. refl;
  }

  job_of_it : Has job (jobs_of s p.id)
  job_of_it = filter_has (λ (j : Job). j.pipeline == p.id) job s.jobs there (eq-eqb job.pipeline p.id inside)

  pub end_indexed : (jobs : List Job) (needs : List Need) (attempts : List Attempt) (rows : List BoardRow) (v : Settled) (before after : Status) → AreIndexes k
      → AreRecords s k.board p.id jobs needs attempts rows → IsSettled s t k.board p.id v
      → before ≡ (with_status s k.board p).status → after ≡ status_of_jobs jobs v.facts.items v.rows.items
      → AreIndexes (written (Put (Record.Attempt x) ∷ []) v.changed.items (of_pipeline p (job ∷ []) attempts before after) k)
  end_indexed jobs needs attempts rows v before after indexes records settled was is =
      indexed_again k t p sound has jobs needs attempts rows records (job ∷ [])
      (λ j h. ⊎_elim (λ e. subst (λ (i : Job). Has i jobs) (sym e) (subst (λ (js : List Job). Has job js) (sym records.are_jobs) job_of_it)) (λ m. absurd m) h)
      are indexes (within s k.board p.id sound are x live (subst (λ n. Has n (numbers_of s p.id)) (sym its_job) (has_map number job (jobs_of s p.id) job_of_it))) refl ends
      v.facts.items v.rows.items v.changed.items settled.facts settled.rows settled.differing before after was is
