-- What is remembered of leases, and when that is right.
use Rattle.std.specs.Prelude.{◌≡◌, ◌≤◌, ◌<◌, All, IfSome, Some, option_map}
use Rattle.ci_machine_steps.specs.Prelude.{Lease, State, Kept, deadline, job_at, leases}
use Rattle.ci_memory.specs.declared.leases.Quiet.{Quiet}
use Rattle.ci_memory.specs.declared.leases.Limit.{Limit}
use Rattle.ci_memory.specs.declared.leases.Leases.{Leases}

-- the lease isn't over until then, and it is on a job of a lesser number
abbrev pub IsWithin : Quiet → Lease → Type 0
IsWithin q l = (q.until ≤ deadline l.attempt l.limit) × (l.attempt.job < q.below)

-- so are all leases
abbrev pub IsQuiet : Quiet → State → Type 0
IsQuiet q s = All (IsWithin q) (leases s)

-- the job is there, with this time limit
abbrev pub IsLimit : Limit → State → Type 0
IsLimit l s = option_map (λ j. j.options.timeout) (job_at s l.job) ≡ Some l.seconds

-- what is remembered of a state is right; where nothing is, it always is
pub record AreRightOf (m : Leases) (s : State) : Type 0 where
  pub quiet : IfSome m.quiet (λ q. IsQuiet q s)
  pub limit : IfSome m.limit (λ l. IsLimit l s)

-- likewise of what a store keeps
abbrev pub AreRight : Leases → Kept → Type 0
AreRight m k = AreRightOf m k.state

-- all that is within the one is within the other
abbrev pub IsWider : Quiet → Quiet → Type 0
IsWider q wide = (wide.until ≤ q.until) × (q.below ≤ wide.below)
