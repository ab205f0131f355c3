-- What is looked up of a pipeline has the attempts on which what a user does to its jobs depends.
use Rattle.std.proofs.Common.{◌≡◌, ℕ, true, ◌==◌, List, filter, sym, ap, subst, ◌∙◌, eqb-true, eq-eqb}
use Rattle.std.specs.List.{list_any}
use Rattle.std.proofs.lemmas.Bool.{and_parts}
use Rattle.ci_machine_steps.specs.Prelude.{Job, Need, Attempt, BoardRow, State, is_within, attempts_of, is_live, is_lease_on}
use Rattle.ci_machine.proofs.Keyed.{Has, has_from_all}
use Rattle.ci_machine.proofs.Filters.{filter_implied}
use Rattle.ci_machine.proofs.Tests.{any_has}
use Rattle.ci_machine_statuses.specs.Lookups.{AreRecords}

module _ (s : State) (board : List BoardRow) (p : ℕ) (jobs : List Job) (needs : List Need) (attempts : List Attempt) (rows : List BoardRow) (records : AreRecords s board p jobs needs attempts rows) where
  -- a number of one of the jobs is between the two
  pub inside_of : (j : Job) (n : ℕ) → Has j jobs → (j.id == n) ≡ true → is_within records.first records.last n ≡ true
  inside_of j n h e =
      subst (λ m. is_within records.first records.last m ≡ true) (eqb-true j.id n e)
      (has_from_all (λ (i : Job). is_within records.first records.last i.id ≡ true) j jobs records.inside h)

  -- all attempts of one of the jobs
  pub all_attempts : (job : Job) → Has job jobs → filter (λ a. a.job == job.id) attempts ≡ attempts_of s job.id
  all_attempts job h =
      ap (filter (λ (a : Attempt). a.job == job.id)) records.are_attempts
      ∙ filter_implied (λ (a : Attempt). a.job == job.id) (λ a. is_within records.first records.last a.job) s.attempts
      (λ a k e. inside_of job a.job h (eq-eqb job.id a.job (sym (eqb-true a.job job.id e))))

  -- all leases on some of the jobs
  pub all_leases : (chosen : List Job) → ((j : Job) → Has j chosen → Has j jobs) → filter (is_lease_on chosen) attempts ≡ filter (is_lease_on chosen) s.attempts
  all_leases chosen h =
      ap (filter (is_lease_on chosen)) records.are_attempts
      ∙ filter_implied (is_lease_on chosen) (λ a. is_within records.first records.last a.job) s.attempts
      (λ a k e. let w = any_has (λ (j : Job). j.id == a.job) chosen (and_parts (is_live a) (list_any (λ j. j.id == a.job) chosen) e).1 in inside_of w.0 a.job (h w.0 w.1.0) w.1.1)
