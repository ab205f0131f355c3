-- What is fixed of a job when its pipeline is made.
use Rattle.std.specs.Prelude.{ℕ, List, [], false, None}
use Rattle.ci_board.specs.Prelude.{no_part}
use Rattle.ci_machine.specs.declared.limits.TheConstants.{DEFAULT_TIMEOUT_SECONDS}
use Rattle.ci_machine.specs.declared.records.JobOptions.{JobOptions}

-- what is fixed of a job that sets nothing but its script
abbrev pub plain_options : List (List ℕ) → JobOptions
plain_options script = record { script = script; timeout = DEFAULT_TIMEOUT_SECONDS; tags = []; resource_group = None; interruptible = false; part = no_part }
