-- A sweep: one lease that is over ends; where there is none, one pipeline that a newer one makes redundant is cancelled.
use Rattle.std.specs.Prelude.{List, [], ◌∷◌, Option, Some, None}
use Rattle.ci_machine.specs.Prelude.{Failed, cause_of}
use Rattle.ci_machine.specs.declared.records.Pipeline.{Pipeline}
use Rattle.ci_machine.specs.declared.records.Job.{Job}
use Rattle.ci_machine.specs.declared.records.Attempt.{Attempt}
use Rattle.ci_machine.specs.declared.lease.Lease.{Lease}
use Rattle.ci_machine.specs.declared.change.RowChange.{RowChange}
use Rattle.ci_machine.specs.declared.change.RowChange.TheVariants.{Put}
use Rattle.ci_machine.specs.declared.change.Record.{Record}
use Rattle.ci_machine.specs.declared.reply.Swept.{Swept}
use Rattle.ci_machine.specs.declared.reply.Swept.TheVariants.{Ended, Cancelled, Nothing}
use Rattle.ci_machine_steps.specs.Cancels.{cancel}

-- the lease ends
abbrev pub ends : Lease → Swept × List RowChange
ends l = (Ended l.attempt.id (cause_of l), Put (Record.Attempt (record l.attempt { state = Failed (cause_of l) None })) ∷ [])

-- the lease that is over, if there is one; the redundant pipeline, if there is one, all attempts or at least those of its jobs, and those
-- of its jobs that can be cancelled
abbrev pub sweep : Option Lease → Option Pipeline → List Attempt → List Job → Swept × List RowChange
sweep (Some l) redundant attempts jobs = ends l
sweep None (Some p) attempts jobs = (Cancelled p.id, cancel attempts jobs)
sweep None None attempts jobs = (Nothing, [])
