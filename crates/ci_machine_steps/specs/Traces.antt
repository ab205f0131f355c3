-- A runner sends the next bytes of a trace.
use Rattle.std.specs.Prelude.{ℕ, List, [], ◌∷◌, length, if◌then◌else◌, max, Option, Some, None, Result, Ok, Err}
use Rattle.std.specs.Str.{bytes_eq}
use Rattle.ci_machine.specs.declared.records.Attempt.{Attempt}
use Rattle.ci_machine.specs.declared.lease.Lease.{Lease}
use Rattle.ci_machine.specs.declared.lease.PieceFault.{PieceFault}
use Rattle.ci_machine.specs.declared.lease.PieceFault.TheVariants.{Unleased, WrongOffset, TraceFull}
use Rattle.ci_machine.specs.declared.change.RowChange.TheVariants.{Put, Append}
use Rattle.ci_machine.specs.declared.change.Record.{Record}
use Rattle.ci_machine.specs.declared.request.TracePart.{TracePart}
use Rattle.ci_machine.specs.declared.reply.Code.TheVariants.{M5, M8, M9}
use Rattle.ci_machine.specs.declared.reply.HttpStatus.TheVariants.{Accepted}
use Rattle.ci_machine.specs.declared.reply.JobStatus.TheVariants.{Running}
use Rattle.ci_machine.specs.declared.reply.Reply.{Reply}
use Rattle.ci_machine.specs.Prelude.{plain, refusal, accepted}
use Rattle.ci_machine_steps.specs.Plans.{Plan, refused}
use Rattle.ci_machine_steps.specs.Reports.{unleased}

-- the piece was accepted, and the trace has this size
abbrev pub accepted_to : ℕ → Reply
accepted_to size = record (plain Accepted) { job_status = Some Running; range = Some size }

abbrev pub not_accepted : PieceFault → Reply
not_accepted (Unleased fault) = unleased fault
not_accepted (WrongOffset size) = record (refusal M8) { range = Some size }
not_accepted TraceFull = refusal M9

-- the bytes go behind the trace, which has this size then
abbrev pub grown : Attempt → List ℕ → ℕ → ℕ → Plan
grown a bytes now size = (
  accepted_to size,
  Append (record { attempt = a.id; bytes = bytes }) ∷ Put (Record.Attempt (record a { seen = max a.seen now })) ∷ [],
)

abbrev pub appended : Attempt → List ℕ → ℕ → Result ℕ PieceFault → Plan
appended a bytes now (Ok size) = grown a bytes now size
appended a bytes now (Err fault) = (not_accepted fault, [])

-- a runner sends the next bytes of the trace of the attempt with the number that it names; the trace has this size
abbrev pub append_trace : Option Lease → ℕ → TracePart → ℕ → Plan
append_trace None size part now = refused M5
append_trace (Some l) size part now =
    if bytes_eq l.attempt.token part.token
    then appended l.attempt part.bytes now (accepted l.attempt l.limit now size part.from (length part.bytes))
    else refused M5
