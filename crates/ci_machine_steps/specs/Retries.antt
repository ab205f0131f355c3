-- A job is to be tried again.
use Rattle.std.specs.Prelude.{Bool, true, false, List, [], ◌∷◌, length}
use Rattle.ci_machine.specs.Prelude.{Status}
use Rattle.ci_machine.specs.declared.records.Job.{Job}
use Rattle.ci_machine.specs.declared.records.Attempt.{Attempt}
use Rattle.ci_machine.specs.declared.change.RowChange.{RowChange}
use Rattle.ci_machine.specs.declared.change.RowChange.TheVariants.{Put}
use Rattle.ci_machine.specs.declared.change.Record.{Record}

-- a job of this status can be tried again
abbrev pub is_retryable : Status → Bool
is_retryable Status.Success = true
is_retryable Status.Failed = true
is_retryable Status.Canceled = true
is_retryable _ = false

-- all its attempts are set aside, and it isn't marked as cancelled any more; so it is idle, as if it had never been tried
abbrev pub retry : List Attempt → Job → List RowChange
retry attempts job = Put (Record.Job (record job { set_aside = length attempts; cancelled = false })) ∷ []
