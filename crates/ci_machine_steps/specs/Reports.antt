-- A runner says how an attempt of its stands.
use Rattle.std.specs.Prelude.{ℕ, List, [], ◌∷◌, if◌then◌else◌, Option, Some, None, Result, Ok, Err}
use Rattle.std.specs.Str.{bytes_eq}
use Rattle.ci_machine.specs.Prelude.{AttemptState, Succeeded, Failed, status_of_state, plain, refusal, is_live, renewed, finished}
use Rattle.ci_machine.specs.declared.records.Attempt.{Attempt}
use Rattle.ci_machine.specs.declared.lease.Lease.{Lease}
use Rattle.ci_machine.specs.declared.lease.LeaseFault.{LeaseFault}
use Rattle.ci_machine.specs.declared.lease.LeaseFault.TheVariants.{NotLive, LeaseOver}
use Rattle.ci_machine.specs.declared.change.RowChange.{RowChange}
use Rattle.ci_machine.specs.declared.change.RowChange.TheVariants.{Put}
use Rattle.ci_machine.specs.declared.change.Record.{Record}
use Rattle.ci_machine.specs.declared.request.Report.{Report}
use Rattle.ci_machine.specs.declared.request.JobUpdate.{JobUpdate}
use Rattle.ci_machine.specs.declared.reply.Code.TheVariants.{M5, M6, M7}
use Rattle.ci_machine.specs.declared.reply.HttpStatus.TheVariants.{Fine}
use Rattle.ci_machine.specs.declared.reply.JobStatus.{JobStatus}
use Rattle.ci_machine.specs.declared.reply.JobStatus.TheVariants.{Running}
use Rattle.ci_machine.specs.declared.reply.Reply.{Reply}
use Rattle.ci_machine_steps.specs.Plans.{Plan, refused}

-- the status of the attempt, with no body
abbrev pub told : JobStatus → Reply
told status = record (plain Fine) { job_status = Some status }

-- nothing of the runner is accepted: M6 tells how the attempt ended
abbrev pub unleased : LeaseFault → Reply
unleased (NotLive state) = record (refusal M6) { job_status = Some (status_of_state state) }
unleased LeaseOver = refusal M7

abbrev pub heard : Attempt → Result ℕ LeaseFault → Plan
heard a (Ok seen) = (told Running, Put (Record.Attempt (record a { seen = seen })) ∷ [])
heard a (Err fault) = (unleased fault, [])

-- the changes by which an attempt comes into a state: none, where it has ended
abbrev pub ending : Attempt → AttemptState → List RowChange
ending a state = if is_live a then Put (Record.Attempt (record a { state = state })) ∷ [] else []

abbrev pub ended : Attempt → Result AttemptState LeaseFault → Plan
ended a (Ok state) = (told (status_of_state state), ending a state)
ended a (Err fault) = (unleased fault, [])

abbrev pub reported : Lease → Report → ℕ → Plan
reported l Report.Running now = heard l.attempt (renewed l.attempt l.limit now)
reported l (Report.Success exit) now = ended l.attempt (finished l.attempt l.limit now (Succeeded exit))
reported l (Report.Failed cause exit) now = ended l.attempt (finished l.attempt l.limit now (Failed cause exit))

-- a runner says how the attempt with the number that it names stands
abbrev pub update_job : Option Lease → JobUpdate → ℕ → Plan
update_job None update now = refused M5
update_job (Some l) update now = if bytes_eq l.attempt.token update.token then reported l update.report now else refused M5
