-- What the facts of jobs become where one attempt is put.
use Rattle.std.proofs.Common.{◌≡◌, ℕ, zero, suc, ◌+◌, ◌-◌, ◌<◌, ◌≤◌, true, ◌==◌, List, [], ◌∷◌, ◌++◌, length, map, filter, Option, Some, None, option_map, slice_index_or}
use Rattle.std.proofs.Common.{slice_set, refl, sym, ap, ◌∙◌, inl, inr, arith, eqb-true, eq-eqb, ne_eqb}
use Rattle.std.specs.List.{last_or}
use Rattle.std.proofs.lemmas.Bool.{cond_both, cond-true}
use Rattle.std.proofs.lemmas.List.{get_or-map, length-append, length-map}
use Rattle.ci_machine_steps.specs.Prelude.{AttemptState, Facts, Attempt, Job, State, attempt_cmp, put, jobs_of, attempts_of, facts_in}
use Rattle.ci_machine.proofs.Keyed.{Has, Rising, rising_from, rising_filter, has_filter, filter_has, has_from_contains, one_at, last_greatest}
use Rattle.ci_machine_steps.proofs.Sound.{Sound}
use Rattle.std.proofs.lemmas.List.Elements.{Contains-get_or}
use Rattle.ci_machine_statuses.specs.declared.tally.Tally.{Tally}
use Rattle.ci_machine_statuses.specs.Lookups.{tally_of, facts_by}
use Rattle.ci_machine.proofs.Filters.{filter-map}
use Rattle.ci_machine_statuses.proofs.Puts.{number, attempt_id, cons_same, map_same, more_in, more_out, swap, put_replace, put_last}

-- ---- of one record of a list the value is another, and those of the rest stay

pub one_other : {A B : Type 0} (id : A → ℕ) (d : B) (low : ℕ) (xs : List A) (f g : A → B) (change : B → B) (n pos : ℕ) → Rising id low xs → pos < length xs
    → slice_index_or (map id xs) pos 0 ≡ n
    → ((x : A) → Has x xs → (id x ≡ n → ⊥) → f x ≡ g x) → ((x : A) → Has x xs → id x ≡ n → f x ≡ change (g x))
    → map f xs ≡ slice_set (map g xs) pos (change (slice_index_or (map g xs) pos d))
one_other id d low [] f g change n pos r l at same other = absurd (omega arith)
one_other id d low (x ∷ xs) f g change n zero r l at same other =
    cons_same (other x (inl refl) at)
    (map_same f g xs (λ y h. same y (inr h) (λ e. absurd (omega (arith, rising_from id y (id x + 1) xs r.1 h)))))
one_other id d low (x ∷ xs) f g change n (suc pos) r l at same other =
    cons_same
    (same x (inl refl) (λ e.
    let y = slice_index_or xs pos x in
    let m : id x + 1 ≤ id y = rising_from id y (id x + 1) xs r.1 (has_from_contains y xs (Contains-get_or xs pos x (omega arith))) in
    let z : id y ≡ n = sym (get_or-map id xs pos x 0 (omega arith)) ∙ at in absurd (omega arith)))
    (one_other id d (id x + 1) xs f g change n pos r.1 (omega arith) at (λ y h. same y (inr h)) (λ y h. other y (inr h)))

-- a job of another pipeline has another number
pub other_pipeline : (s : State) → Sound s → (i j : Job) → Has i s.jobs → Has j s.jobs → (i.pipeline ≡ j.pipeline → ⊥) → i.id ≡ j.id → ⊥
other_pipeline s sound i j h k d e = d (ap (λ (w : Job). w.pipeline) (one_at number i j 0 s.jobs sound.jobs h k e))

pub in_pipeline : (s : State) (p : ℕ) (j : Job) → Has j (jobs_of s p) → Has j s.jobs × (j.pipeline ≡ p)
in_pipeline s p j h = let w = has_filter (λ (i : Job). i.pipeline == p) j s.jobs h in (w.0, eqb-true j.pipeline p w.1)

pub its_own : (s : State) (j : Job) → Has j s.jobs → Has j (jobs_of s j.pipeline)
its_own s j h = filter_has (λ (i : Job). i.pipeline == j.pipeline) j s.jobs h (eq-eqb j.pipeline j.pipeline refl)

-- ---- a job's facts with these attempts of it

abbrev pub tally_from : List Attempt → Tally
tally_from its = record { count = length its; last = option_map (λ a. a.state) (last_or None its) }

abbrev pub facts_with : List Attempt → Job → Facts
facts_with its j = facts_by (tally_from its) j

abbrev pub stands : Option Attempt → Option AttemptState
stands = option_map (λ a. a.state)

-- what holds of each changed record and is handed on holds of the last
last_related : {A : Type 0} (f : A → A) (R : Option A → Option A → Type 0) (u v : Option A) (xs : List A)
    → ((x : A) → Has x xs → R (Some x) (Some (f x))) → R u v → R (last_or u xs) (last_or v (map f xs))
last_related f R u v [] h q = q
last_related f R u v (x ∷ xs) h q = last_related f R (Some x) (Some (f x)) xs (λ y k. h y (inr k)) (h x (inl refl))

-- where each attempt comes to stand so, the last does
pub facts_mapped : (f : Attempt → Attempt) (to : Option AttemptState → Option AttemptState) (its : List Attempt) (j : Job) → to None ≡ None
    → ((a : Attempt) → Has a its → Some (f a).state ≡ to (Some a.state)) → facts_with (map f its) j ≡ record (facts_with its j) { last = to (facts_with its j).last }
facts_mapped f to its j none h =
    let ends = last_related f (λ u v. stands v ≡ to (stands u)) None None its h (sym none) in
    λ i. record { last = ends i; attempts = length-map its f i - j.set_aside; cancelled = j.cancelled; played = j.played }

-- and where each stands as it did, the facts are as they were
pub facts_kept : (f : Attempt → Attempt) (its : List Attempt) (j : Job) → ((a : Attempt) → Has a its → (f a).state ≡ a.state) → facts_with (map f its) j ≡ facts_with its j
facts_kept f its j h = facts_mapped f (λ o. o) its j refl (λ a k. ap (λ (x : AttemptState). Some x) (h a k))

-- ---- a new attempt

last-append : {A : Type 0} (o : Option A) (xs : List A) (x : A) → last_or o (xs ++ x ∷ []) ≡ Some x
last-append o [] x = refl
last-append o (y ∷ ys) x = last-append (Some y) ys x

abbrev with_one : AttemptState → Tally → Tally
with_one state t = record { count = t.count + 1; last = Some state }

pub its_tally : (xs : List Attempt) (a : Attempt) (n : ℕ) → n ≡ a.job → tally_of (xs ++ a ∷ []) n ≡ with_one a.state (tally_of xs n)
its_tally xs a n e =
    let its : List Attempt = filter (λ b. b.job == n) xs in
    ap tally_from (more_in (λ (b : Attempt). b.job == n) xs a (eq-eqb a.job n (sym e)))
    ∙ (λ i. record { count = length-append its (a ∷ []) i; last = ap stands (last-append None its a) i })

pub other_tally : (xs : List Attempt) (a : Attempt) (n : ℕ) → (n ≡ a.job → ⊥) → tally_of (xs ++ a ∷ []) n ≡ tally_of xs n
other_tally xs a n d = ap tally_from (more_out (λ (b : Attempt). b.job == n) xs a (ne_eqb a.job n (λ e. d (sym e))))

-- the facts of a job that is started
abbrev pub started : Facts → AttemptState → Facts
started f state = record f { last = Some state; attempts = f.attempts + 1 }

module _ (s t : State) (sound : Sound s) (x : Attempt) (is_new : x.id ≡ s.next.attempt) (puts : t.attempts ≡ put attempt_cmp x s.attempts) where
  appended : (j : Job) → facts_in t j ≡ facts_by (tally_of (s.attempts ++ x ∷ []) j.id) j
  appended j =
      ap (λ (l : List Attempt). facts_by (tally_of l j.id) j)
      (puts ∙ put_last attempt_id x s.attempts (λ a h. let m : a.id < s.next.attempt = sound.below a h in omega arith))

  pub started_other : (j : Job) → (j.id ≡ x.job → ⊥) → facts_in t j ≡ facts_in s j
  started_other j d = appended j ∙ ap (λ (y : Tally). facts_by y j) (other_tally s.attempts x j.id d)

  pub started_its : (j : Job) → Has j s.jobs → j.id ≡ x.job → facts_in t j ≡ started (facts_in s j) x.state
  started_its j h e =
      let count : length (attempts_of s j.id) + 1 - j.set_aside ≡ length (attempts_of s j.id) - j.set_aside + 1 = omega (arith, sound.aside j h) in
      appended j
      ∙ (ap (λ (y : Tally). facts_by y j) (its_tally s.attempts x j.id e) ∙ (λ i. record { last = Some x.state; attempts = count i; cancelled = j.cancelled; played = j.played }))

-- ---- an attempt in another state

-- the facts of a job whose last attempt comes into a state
abbrev pub ended : AttemptState → Facts → Facts
ended state f = record f { last = Some state }

-- an attempt x in the place of a, of its number and job
module _ (s t : State) (rise : Rising (λ b. b.id) 0 s.attempts) (a x : Attempt) (has : Has a s.attempts) (its_id : x.id ≡ a.id) (its_job : x.job ≡ a.job) (puts : t.attempts ≡ put attempt_cmp x s.attempts) where
  abbrev now : Attempt → Attempt
  now = swap attempt_id x

  -- an attempt of x's number is a
  is_a : (b : Attempt) → Has b s.attempts → (b.id == x.id) ≡ true → a ≡ b
  is_a b h e = one_at attempt_id a b 0 s.attempts rise has h (sym its_id ∙ sym (eqb-true b.id x.id e))

  swapped : (j : Job) → facts_in t j ≡ facts_with (map now (attempts_of s j.id)) j
  swapped j =
      ap (λ (l : List Attempt). facts_with (filter (λ b. b.job == j.id) l) j) (puts ∙ put_replace attempt_id a x 0 s.attempts rise has (sym its_id))
      ∙ ap (λ (l : List Attempt). facts_with l j) (filter-map (λ (b : Attempt). b.job == j.id) now s.attempts
      (λ b h. cond_both (b.id == x.id) x b (λ (c : Attempt). (c.job == j.id) ≡ (b.job == j.id))
      (λ e. ap (λ n. n == j.id) (its_job ∙ ap (λ (c : Attempt). c.job) (is_a b h e))) (λ e. refl)))

  its : (j : Job) (b : Attempt) → Has b (attempts_of s j.id) → Has b s.attempts × (b.job ≡ j.id)
  its j b h = let w = has_filter (λ (c : Attempt). c.job == j.id) b s.attempts h in (w.0, eqb-true b.job j.id w.1)

  pub ended_other : (j : Job) → (j.id ≡ a.job → ⊥) → facts_in t j ≡ facts_in s j
  ended_other j d =
      swapped j ∙ facts_kept now (attempts_of s j.id) j
      (λ b h. let w = its j b h in
      cond_both (b.id == x.id) x b (λ (c : Attempt). c.state ≡ b.state) (λ e. absurd (d (sym w.1 ∙ sym (ap (λ (c : Attempt). c.job) (is_a b w.0 e))))) (λ e. refl))

  -- where a was the last of its job
  pub ended_its : (j : Job) → ((b : Attempt) → Has b s.attempts → a.job ≡ b.job → b.id ≤ a.id) → j.id ≡ a.job → facts_in t j ≡ ended x.state (facts_in s j)
  ended_its j last e =
      let l = attempts_of s j.id in
      let is_last : last_or None l ≡ Some a
      = last_greatest attempt_id a None 0 l (rising_filter attempt_id (λ b. b.job == j.id) 0 s.attempts rise)
      (filter_has (λ b. b.job == j.id) a s.attempts has (eq-eqb a.job j.id (sym e)))
      (λ b h. let w = its j b h in last b w.0 (sym e ∙ sym w.1)) in
      let ends : stands (last_or None (map now l)) ≡ Some x.state
      = ap stands (last_related now (λ u v. v ≡ option_map now u) None None l (λ b h. refl) refl
      ∙ (ap (option_map now) is_last ∙ ap (λ (b : Attempt). Some b) (cond-true (a.id == x.id) x a (eq-eqb a.id x.id (sym its_id))))) in
      swapped j ∙ (λ i. record { last = ends i; attempts = length-map l now i - j.set_aside; cancelled = j.cancelled; played = j.played })

  -- where x stands as a does, no facts change
  pub same_state : (j : Job) → x.state ≡ a.state → facts_in t j ≡ facts_in s j
  same_state j e =
      swapped j ∙ facts_kept now (attempts_of s j.id) j
      (λ b h. cond_both (b.id == x.id) x b (λ (c : Attempt). c.state ≡ b.state) (λ q. e ∙ ap (λ (c : Attempt). c.state) (is_a b (its j b h).0 q)) (λ q. refl))
