-- What is told of jobs by what was looked up is what is told by the whole state.
use Rattle.std.proofs.Common.{◌≡◌, ℕ, true, ◌==◌, List, [], ◌∷◌, map, All, Result, Ok, refl, sym, ap, subst, inl, inr, eqb-true}
use Rattle.serde_json.specs.Data.{Data}
use Rattle.ci_machine_steps.specs.Prelude.{is_allowed, Facts, Row, Attempt, Claim, Job, Need, Runner, is_free, attempt_data, needs_among, listed_job_data, told_job, told_jobs}
use Rattle.ci_machine_steps.specs.Prelude.{is_within, needs_within, attempts_within}
use Rattle.ci_machine.specs.Listings.{attempts_among}
use Rattle.ci_machine.proofs.Filters.{filter_implied}
use Rattle.ci_machine.proofs.Keyed.{Has, has_from_all}
use Rattle.ci_server_lookups.specs.Prelude.{FreeAlike}
use Rattle.ci_server_events.proofs.Showing.{printed_alike}

module _ (cs ds : List Claim) (project : ℕ) (runners : List Runner) (first last : ℕ) (needs : List Need) (attempts : List Attempt) where
  -- by both claims the job's group is free, or by neither
  abbrev IsAlike : Job → Type 0
  IsAlike j = is_free cs project j.options.resource_group ≡ is_free ds project j.options.resource_group

  abbrev IsInside : Job → Type 0
  IsInside j = is_within first last j.id ≡ true

  needs_same : (j : Job) → IsInside j → needs_among (needs_within first last needs) j.id ≡ needs_among needs j.id
  needs_same j inside =
      ap (map (λ (w : Need). w.pred))
      (filter_implied (λ (w : Need). w.job == j.id) (λ (w : Need). is_within first last w.job) needs (λ w m e. subst (λ n. is_within first last n ≡ true) (sym (eqb-true w.job j.id e)) inside))

  attempts_same : (j : Job) → IsInside j → attempts_among (attempts_within first last attempts) j.id ≡ attempts_among attempts j.id
  attempts_same j inside =
      filter_implied (λ (a : Attempt). a.job == j.id) (λ (a : Attempt). is_within first last a.job) attempts (λ a m e. subst (λ n. is_within first last n ≡ true) (sym (eqb-true a.job j.id e)) inside)

  abbrev by_found : Job → Facts → Row → Data
  by_found = told_job cs project runners (needs_within first last needs) (attempts_within first last attempts)

  abbrev all_by_found : List Job → List Facts → List Row → List Data
  all_by_found = told_jobs cs project runners (needs_within first last needs) (attempts_within first last attempts)

  job_same : (j : Job) (f : Facts) (r : Row) → IsAlike j → IsInside j → by_found j f r ≡ told_job ds project runners needs attempts j f r
  job_same j f r alike inside =
      λ i. listed_job_data (printed_alike cs ds project j r.status alike i) (is_allowed j.options.part f r.status) (map (attempt_data runners) (attempts_same j inside i)) (needs_same j inside i) j

  jobs_same : (js : List Job) (fs : List Facts) (rs : List Row) → ((j : Job) → Has j js → IsAlike j) → ((j : Job) → Has j js → IsInside j)
      → all_by_found js fs rs ≡ told_jobs ds project runners needs attempts js fs rs
  jobs_same [] fs rs alike inside = refl
  jobs_same (j ∷ js) [] rs alike inside = refl
  jobs_same (j ∷ js) (f ∷ fs) [] alike inside = refl
  jobs_same (j ∷ js) (f ∷ fs) (r ∷ rs) alike inside =
      λ i. job_same j f r (alike j (inl refl)) (inside j (inl refl)) i ∷ jobs_same js fs rs (λ k h. alike k (inr h)) (λ k h. inside k (inr h)) i

  -- jobs between two numbers are told alike
  pub told_alike : (js : List Job) (fs : List Facts) (rs : List Row) → FreeAlike cs ds project js → All (λ j. is_within first last j.id ≡ true) js
      → told_jobs cs project runners (needs_within first last needs) (attempts_within first last attempts) js fs rs ≡ told_jobs ds project runners needs attempts js fs rs
  told_alike js fs rs alike inside = jobs_same js fs rs (λ j h. has_from_all IsAlike j js alike h) (λ j h. has_from_all IsInside j js inside h)

-- two answers that are told are the same
pub ok_alike : {A E : Type 0} (x y : A) → x ≡ y → ◌≡◌ {A = Result A E} (Ok x) (Ok y)
ok_alike x y e = λ i. Ok (e i)
