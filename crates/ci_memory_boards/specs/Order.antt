-- The order of the records that are remembered as lists, without which none is known to have its place.
use Rattle.std.specs.Prelude.{map}
use Rattle.std.specs.Ordering.{nat_cmp}
use Rattle.std.specs.List.Sorted.{IsStrictlySortedBy}
use Rattle.ci_machine_steps.specs.Prelude.{Kept}

-- jobs and attempts stand by their numbers, and rows of statuses by their jobs, as those of tables do
pub record InOrder (k : Kept) : Type 0 where
  pub jobs : IsStrictlySortedBy nat_cmp (map (λ j. j.id) k.state.jobs)
  pub attempts : IsStrictlySortedBy nat_cmp (map (λ a. a.id) k.state.attempts)
  pub rows : IsStrictlySortedBy nat_cmp (map (λ r. r.job) k.board)
