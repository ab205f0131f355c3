-- The attempts of a pipeline's jobs go one after the other.
use Rattle.std.proofs.Common.{◌≡◌, ℕ, ◌+◌, ◌<◌, cond, Bool, true, false, List, [], ◌∷◌, ◌++◌, length, take, flat_map, slice_index_or, sym, ap, ◌∙◌}
use Rattle.std.proofs.lemmas.Grind.{flat_map-append}
use Rattle.std.proofs.lemmas.List.{append_assoc, append-nil}
use Rattle.std.proofs.lemmas.List.Elements.{filter_more}
use Rattle.ci_machine_steps.specs.Prelude.{Attempt, Job, Key, RowChange, Remove, is_job_among, attempt_goes}
use Rattle.ci_machine_steps.specs.Prunes.{attempts_among}

module _ (jobs : List Job) (attempts : List Attempt) (i : ℕ) (a : Attempt) (within : i < length attempts) (at : a ≡ slice_index_or attempts i a) where
  abbrev gone : ℕ → List RowChange
  gone n = flat_map attempt_goes (attempts_among jobs (take n attempts))

  abbrev one_more : Bool → List RowChange
  one_more its = flat_map attempt_goes (cond its (a ∷ []) [])

  next_is : gone (i + 1) ≡ gone i ++ one_more (is_job_among jobs a.job)
  next_is =
      ap (flat_map attempt_goes) (filter_more (λ b. is_job_among jobs b.job) attempts i a within
      ∙ ap (λ (b : Attempt). attempts_among jobs (take i attempts) ++ cond (is_job_among jobs b.job) (b ∷ []) []) (sym at))
      ∙ flat_map-append attempt_goes (attempts_among jobs (take i attempts)) (cond (is_job_among jobs a.job) (a ∷ []) [])

  -- the next one goes
  pub goes_too : (before trace both : List RowChange) → is_job_among jobs a.job ≡ true → before ≡ gone i → trace ≡ before ++ Remove (Key.Trace a.id) ∷ [] → both ≡ trace ++ Remove (Key.Attempt a.id) ∷ [] → both ≡ gone (i + 1)
  goes_too before trace both its so first second =
      second ∙ ((λ k. (first ∙ ap (λ l. l ++ Remove (Key.Trace a.id) ∷ []) so) k ++ Remove (Key.Attempt a.id) ∷ [])
      ∙ (append_assoc (gone i) (Remove (Key.Trace a.id) ∷ []) (Remove (Key.Attempt a.id) ∷ [])
      ∙ sym (next_is ∙ ap (λ b. gone i ++ one_more b) its)))

  -- it isn't theirs
  pub stays_here : (before : List RowChange) → is_job_among jobs a.job ≡ false → before ≡ gone i → before ≡ gone (i + 1)
  stays_here before other so = so ∙ sym (next_is ∙ (ap (λ b. gone i ++ one_more b) other ∙ append-nil (gone i)))
