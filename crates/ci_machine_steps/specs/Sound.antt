-- What holds of the numbers in every state that a history leads to.
use Rattle.std.specs.Prelude.{◌≡◌, ◌<◌, ◌≤◌, true, length, map, All, Some}
use Rattle.std.specs.Ordering.{nat_cmp}
use Rattle.std.specs.List.Sorted.{IsStrictlySortedBy}
use Rattle.ci_machine.specs.Prelude.{State, need_cmp, attempts_of, is_live, last_attempt}
use Rattle.ci_machine_steps.specs.Laws.{IsLinked}

-- Records stand in the order of their numbers, which are 1 or more and below those that come next, and jobs in that of their pipelines; what a
-- record names is there; and the live attempt of a job, if it has one, is its last.
pub record IsSound (s : State) : Type 0 where
  pub pipelines_ascend : IsStrictlySortedBy nat_cmp (map (λ p. p.id) s.pipelines)
  pub jobs_ascend : IsStrictlySortedBy nat_cmp (map (λ j. j.id) s.jobs)
  pub attempts_ascend : IsStrictlySortedBy nat_cmp (map (λ a. a.id) s.attempts)
  pub needs_ascend : IsStrictlySortedBy need_cmp s.needs
  pub pipelines_below : All (λ p. p.id < s.next.pipeline) s.pipelines
  pub jobs_positive : All (λ j. 0 < j.id) s.jobs
  pub jobs_below : All (λ j. j.id < s.next.job) s.jobs
  -- jobs of newer pipelines have greater numbers
  pub jobs_in_turn : All (λ a. All (λ b. a.pipeline < b.pipeline → a.id < b.id) s.jobs) s.jobs
  pub attempts_below : All (λ a. a.id < s.next.attempt) s.attempts
  pub linked : IsLinked s
  -- no more of a job's attempts are set aside than it has
  pub set_aside : All (λ j. j.set_aside ≤ length (attempts_of s j.id)) s.jobs
  pub live_is_last : All (λ a. is_live a ≡ true → last_attempt s a.job ≡ Some a) s.attempts
