-- A pipeline isn't finished by the rows of its jobs.
use Rattle.std.proofs.Common.{◌≡◌, ℕ, zero, suc, ◌<◌, Bool, true, false, if◌then◌else◌, ◌&&◌, ◌||◌, not, List, [], ◌∷◌, length, map, slice_index_or, refl, sym, ap, subst, ◌∙◌, inl, inr}
use Rattle.std.proofs.Common.{⊎_elim, arith}
use Rattle.std.proofs.lemmas.Bool.{false≢true, or_cases}
use Rattle.std.proofs.lemmas.List.{get_or-map, length-map}
use Rattle.ci_machine_steps.specs.Prelude.{AllowFailure, No, Yes, ExitCodes, Facts, Status, is_status, is_allowed_by, facts_at, no_row, statuses, some_job, has_attempt, has_status, has_strict}
use Rattle.ci_machine_steps.specs.Prelude.{pipeline_status, Pipeline, Job, BoardRow, State, jobs_of, numbers_of, facts_of, row_for, rows_of, is_unfinished, is_open_in}
use Rattle.ci_machine.specs.Prelude.{Part, part_of, no_part}
use Rattle.ci_board.specs.Prelude.{row_at}
use Rattle.ci_machine.proofs.Keyed.{Has, contains_from_has}
use Rattle.ci_machine_steps.proofs.Finished.{some_is}
use Rattle.ci_server_lookups.specs.Prelude.{keeps_open}

-- ---- some of the first jobs

some_has : (n : ℕ) (test : ℕ → Bool) → some_job n test ≡ true → (i : ℕ) × (i < n) × (test i ≡ true)
some_has zero test e = absurd (false≢true e)
some_has (suc n) test e =
    ⊎_elim (λ (t : test n ≡ true). (n, omega arith, t))
    (λ (r : some_job n test ≡ true). let w = some_has n test r in let l : w.0 < n = w.1 in (w.0, omega arith, w.2))
    (or_cases (test n) (some_job n test) e)

there_at : {A : Type 0} (xs : List A) (i : ℕ) → i < length xs → (x : A) × Has x xs × ((d : A) → slice_index_or xs i d ≡ x)
there_at [] i l = absurd (omega arith)
there_at (x ∷ xs) zero l = (x, inl refl, λ d. refl)
there_at (x ∷ xs) (suc i) l = let w = there_at xs i (omega arith) in (w.0, inr w.1, w.2)

or_swapped : (a b c d : Bool) → ((a || b) || (c || d)) ≡ ((a || c) || (b || d))
or_swapped true b c d = refl
or_swapped false true true d = refl
or_swapped false true false d = refl
or_swapped false false c d = refl

some_either : (n : ℕ) (p q : ℕ → Bool) → some_job n (λ i. p i || q i) ≡ (some_job n p || some_job n q)
some_either zero p q = refl
some_either (suc n) p q = ap (λ b. (p n || q n) || b) (some_either n p q) ∙ or_swapped (p n) (q n) (some_job n p) (some_job n q)

-- ---- the status of a pipeline

-- the cases of a pipeline's status, of which the first three aren't finished
first_three : (running pending started manual failed canceled done : Bool)
    → is_unfinished (if running then Status.Running else if pending then (if started then Status.Running else Status.Pending) else if manual then Status.Manual else if failed then Status.Failed else if canceled then Status.Canceled else if done then Status.Success else Status.Skipped)
    ≡ (running || (pending || manual))
first_three true p t m f c d = refl
first_three false true true m f c d = refl
first_three false true false m f c d = refl
first_three false false t true f c d = refl
first_three false false t false true c d = refl
first_three false false t false false true d = refl
first_three false false t false false false true = refl
first_three false false t false false false false = refl

module _ (parts : List Part) (facts : List Facts) (a : ℕ → Status) where
  abbrev some : (ℕ → Bool) → Bool
  some test = some_job (length parts) test

  -- the job keeps it open
  abbrev holds_open : ℕ → Bool
  holds_open i = has_status a Status.Running i || (has_status a Status.Pending i || has_strict parts facts a Status.Manual i)

  open_is : is_unfinished (pipeline_status parts facts a) ≡ some holds_open
  open_is =
      first_three (some (has_status a Status.Running)) (some (has_status a Status.Pending)) (some (λ j. has_attempt (facts_at facts j).last)) (some (has_strict parts facts a Status.Manual))
      (some (has_strict parts facts a Status.Failed)) (some (has_strict parts facts a Status.Canceled)) (some (λ j. not (is_status Status.Skipped (a j) || is_status Status.Manual (a j))))
      ∙ sym (some_either (length parts) (has_status a Status.Running) (λ i. has_status a Status.Pending i || has_strict parts facts a Status.Manual i)
      ∙ ap (λ b. some (has_status a Status.Running) || b) (some_either (length parts) (has_status a Status.Pending) (has_strict parts facts a Status.Manual)))

-- ---- what a job's status makes of its pipeline

kept_by : (allow : AllowFailure) (facts : Facts) (s : Status) → keeps_open allow s ≡ (is_status Status.Running s || (is_status Status.Pending s || (is_status Status.Manual s && not (is_allowed_by allow facts s))))
kept_by No facts Status.Manual = refl
kept_by Yes facts Status.Manual = refl
kept_by (ExitCodes codes) facts Status.Manual = refl
kept_by allow facts _ = refl

module _ (s : State) (board : List BoardRow) (p : Pipeline) where
  abbrev jobs : List Job
  jobs = jobs_of s p.id

  abbrev parts : List Part
  parts = map (λ (j : Job). j.options.part) jobs

  abbrev facts : List Facts
  facts = facts_of s p.id

  abbrev at_place : ℕ → Status
  at_place = statuses (rows_of s board p.id)

  abbrev keeps : Job → Bool
  keeps j = keeps_open j.options.part.allow_failure (row_for board j.id).status

  -- the job at a place of the pipeline
  keeps_at : (i : ℕ) (j : Job) → i < length jobs → slice_index_or jobs i j ≡ j → keeps j ≡ holds_open parts facts at_place i
  keeps_at i j l is =
      let numbered : i < length (numbers_of s p.id) = subst (λ n. i < n) (sym (length-map jobs (λ (w : Job). w.id))) l in
      let number : slice_index_or (numbers_of s p.id) i 0 ≡ j.id = get_or-map (λ (w : Job). w.id) jobs i j 0 l ∙ ap (λ (w : Job). w.id) is in
      let row : row_at (rows_of s board p.id) i ≡ row_for board j.id = get_or-map (row_for board) (numbers_of s p.id) i 0 no_row numbered ∙ ap (row_for board) number in
      let part : part_of parts i ≡ j.options.part = get_or-map (λ (w : Job). w.options.part) jobs i j no_part l ∙ ap (λ (w : Job). w.options.part) is in
      (λ k. keeps_open (sym part k).allow_failure (sym row k).status) ∙ kept_by (part_of parts i).allow_failure (facts_at facts i) (at_place i)

  parts_long : length parts ≡ length jobs
  parts_long = length-map jobs (λ (w : Job). w.options.part)

  -- a job with such a status keeps it open
  pub opened : (j : Job) → Has j jobs → keeps j ≡ true → is_open_in s board p ≡ true
  opened j has is =
      let at = contains_from_has j jobs has in
      let inside : at.0 < length parts = subst (λ n. at.0 < n) (sym parts_long) at.1 in
      open_is parts facts at_place ∙ some_is (length parts) (holds_open parts facts at_place) at.0 inside (sym (keeps_at at.0 j at.1 at.2) ∙ is)

  -- and where it is open there is such a job
  pub opener : is_open_in s board p ≡ true → (j : Job) × Has j jobs × (keeps j ≡ true)
  opener is =
      let w = some_has (length parts) (holds_open parts facts at_place) (sym (open_is parts facts at_place) ∙ is) in
      let inside : w.0 < length jobs = subst (λ n. w.0 < n) parts_long w.1 in
      let there = there_at jobs w.0 inside in
      (there.0, there.1, keeps_at w.0 there.0 inside (there.2 there.0) ∙ w.2)
