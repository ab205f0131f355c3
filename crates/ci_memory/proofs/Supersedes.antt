-- The redundant pipeline of least number is the first one that is superseded of those that aren't finished.
use Rattle.std.proofs.Common.{◌≡◌, ℕ, ◌==◌, ◌&&◌, ◌||◌, not, cond, Bool, true, false, List, [], ◌∷◌, map, filter, find, Option, Some, None, option_map, refl, sym, ap, ◌∙◌, inl}
use Rattle.std.proofs.Common.{inr, arith, eqb-true}
use Rattle.std.specs.List.{list_any}
use Rattle.std.proofs.lemmas.Bool.{cond_both}
use Rattle.ci_machine_steps.specs.Prelude.{Attempt, BoardRow, Job, Pipeline, PipelineWithStatus, Unfinished, State, jobs_of, is_within, attempts_within, is_newer_of, is_bound_to}
use Rattle.ci_machine_steps.specs.Prelude.{is_redundant, is_open_in, unfinished_in, pipeline_at, with_status, was_tried, redundant_in}
use Rattle.ci_machine.proofs.Keyed.{Has, Rising, find_has}
use Rattle.ci_machine.proofs.Tests.{any_mapped}
use Rattle.ci_memory.specs.Redundant.{is_superseded, if_superseded, superseded_at}

-- ---- lists

find_mapped : {A B : Type 0} (f : A → B) (g : B → A) (p : B → Bool) → ((x : A) → g (f x) ≡ x) → (xs : List A) → option_map g (find p (map f xs)) ≡ find (λ x. p (f x)) xs
find_mapped f g p back [] = refl
find_mapped f g p back (x ∷ xs) = grind (arith, back x, find_mapped f g p back xs)

find_same : {A : Type 0} (p q : A → Bool) → ((x : A) → p x ≡ q x) → (xs : List A) → find p xs ≡ find q xs
find_same p q same [] = refl
find_same p q same (x ∷ xs) = λ i. cond (same x i) (Some x) (find_same p q same xs i)

any_filtered : {A : Type 0} (p t : A → Bool) (xs : List A) → list_any p (filter t xs) ≡ list_any (λ x. p x && t x) xs
any_filtered p t [] = refl
any_filtered p t (x ∷ xs) = grind (arith, any_filtered p t xs)

any_alike : {A : Type 0} (p q : A → Bool) (xs : List A) → ((x : A) → Has x xs → p x ≡ q x) → list_any p xs ≡ list_any q xs
any_alike p q [] same = refl
any_alike p q (x ∷ xs) same = λ i. same x (inl refl) i || any_alike p q xs (λ y h. same y (inr h)) i

regrouped : (a b c : Bool) → ((a && b) && c) ≡ (a && (b && c))
regrouped a b c = grind arith

-- ---- the redundant pipeline

module _ (s : State) (board : List BoardRow) where
  abbrev with : Pipeline → PipelineWithStatus
  with p = with_status s board p

  abbrev tried : List Job
  tried = filter (was_tried s) s.jobs

  redundant_is : (p : Pipeline) → is_redundant (map with s.pipelines) tried (with p) ≡ (is_open_in s board p && is_superseded s p)
  redundant_is p = regrouped (is_open_in s board p) (list_any (λ q. is_newer_of p q.pipeline) (map with s.pipelines)) (not (list_any (is_bound_to p) tried)) ∙ (λ i. is_open_in s board p && (sym (any_mapped (λ q. is_newer_of p q.pipeline) with s.pipelines) i && not (any_filtered (is_bound_to p) (was_tried s) s.jobs i)))

  pub as_found : redundant_in s board ≡ find (λ p. is_open_in s board p && is_superseded s p) s.pipelines
  as_found = find_mapped with (λ w. w.pipeline) (is_redundant (map with s.pipelines) tried) (λ p. refl) s.pipelines ∙ find_same _ _ redundant_is s.pipelines

-- ---- as it is looked for

abbrev pub or_first : {A : Type 0} → Option A → Option A → Option A
or_first None more = more
or_first (Some x) more = Some x

-- the first that is found for one of these
abbrev pub first_found : State → List Unfinished → Option Pipeline
first_found s [] = None
first_found s (u ∷ us) = or_first (superseded_at s u.pipeline) (first_found s us)

module _ (s : State) (board : List BoardRow) (rise : Rising (λ (p : Pipeline). p.id) 0 s.pipelines) where
  at_its : (p : Pipeline) → Has p s.pipelines → superseded_at s p.id ≡ cond (is_superseded s p) (Some p) None
  at_its p k = ap (λ o. if_superseded s o) (find_has (λ (q : Pipeline). q.id) p 0 s.pipelines rise k)

  among : (ps : List Pipeline) → ((p : Pipeline) → Has p ps → Has p s.pipelines) → first_found s (map (λ p. record { pipeline = p.id }) (filter (is_open_in s board) ps)) ≡ find (λ p. is_open_in s board p && is_superseded s p) ps
  among [] sub = refl
  among (p ∷ ps) sub =
      let more = among ps (λ q h. sub q (inr h)) in
      let t = is_superseded s p in
      let rest = find (λ q. is_open_in s board q && is_superseded s q) ps in
      cond_both (is_open_in s board p) (p ∷ filter (is_open_in s board) ps) (filter (is_open_in s board) ps)
      (λ l. first_found s (map (λ q. record { pipeline = q.id }) l) ≡ cond (is_open_in s board p && t) (Some p) rest)
      (λ e. ap (λ o. or_first o (first_found s (map (λ q. record { pipeline = q.id }) (filter (is_open_in s board) ps)))) (at_its p (sub p (inl refl)))
      ∙ (cond_both t (Some p) None (λ o. or_first o (first_found s (map (λ q. record { pipeline = q.id }) (filter (is_open_in s board) ps))) ≡ cond t (Some p) rest) (λ y. sym (ap (λ b. cond b (Some p) rest) y)) (λ n. more ∙ sym (ap (λ b. cond b (Some p) rest) n))
      ∙ sym (ap (λ b. cond (b && t) (Some p) rest) e)))
      (λ e. more ∙ sym (ap (λ b. cond (b && t) (Some p) rest) e))

  pub first_is_redundant : first_found s (unfinished_in s board) ≡ redundant_in s board
  first_is_redundant = among s.pipelines (λ p h. h) ∙ sym (as_found s board)

-- a pipeline that was looked up is superseded, by whether there is a newer one, and whether one of its jobs holds it back
pub superseded_by : (s : State) (n : ℕ) (p : Pipeline) (newer held : Bool) → Some p ≡ pipeline_at s n → list_any (is_newer_of p) s.pipelines ≡ newer
    → list_any (λ j. is_bound_to p j && was_tried s j) s.jobs ≡ held → superseded_at s n ≡ cond (newer && not held) (Some p) None
superseded_by s n p newer held its is_newer is_held = ap (if_superseded s) (sym its) ∙ (λ i. cond (is_newer i && not (is_held i)) (Some p) None)

-- ---- the jobs that hold a pipeline back

-- of the pipeline's own jobs, by the attempts that were looked up
pub held_back_is : (s : State) (p : Pipeline) (first last : ℕ) → ((j : Job) → Has j (jobs_of s p.id) → is_within first last j.id ≡ true)
    → list_any (λ j. is_bound_to p j && list_any (λ a. a.job == j.id) (attempts_within first last s.attempts)) (jobs_of s p.id) ≡ list_any (λ j. is_bound_to p j && was_tried s j) s.jobs
held_back_is s p first last inside =
    any_alike _ _ (jobs_of s p.id) (λ j k. ap (λ b. is_bound_to p j && b) (within j (inside j k)))
    ∙ (any_filtered (λ j. is_bound_to p j && was_tried s j) (λ j. j.pipeline == p.id) s.jobs
    ∙ any_alike _ _ s.jobs (λ j _. own (j.pipeline == p.id) (not j.options.interruptible) (was_tried s j)))
  where
    both : (a b : Bool) → (a ≡ true → b ≡ true) → (a && b) ≡ a
    both true b f = f refl
    both false b f = refl

    -- an attempt of the job is between the numbers where the job is
    within : (j : Job) → is_within first last j.id ≡ true → list_any (λ a. a.job == j.id) (attempts_within first last s.attempts) ≡ was_tried s j
    within j e =
        any_filtered (λ (a : Attempt). a.job == j.id) (λ a. is_within first last a.job) s.attempts
        ∙ any_alike _ _ s.attempts (λ a _. both (a.job == j.id) (is_within first last a.job) (λ t. ap (is_within first last) (eqb-true a.job j.id t) ∙ e))

    own : (a b c : Bool) → (((a && b) && c) && a) ≡ ((a && b) && c)
    own a b c = grind arith
