-- What a call answers.
use Rattle.std.specs.Prelude.{ℕ, List, [], ◌∷◌, Option, Some, None, Result, Err}
use Rattle.ci_config.specs.Prelude.{X8, Config, Fault, Placed, Patterns, built, refused_at, code_view, way_view, fails_at}
use Rattle.ci_config.specs.declared.fault.ConfigCode.{ConfigCode}
use Rattle.ci_config.specs.declared.fault.ConfigCode.TheVariants.{K13}
use Rattle.ci_config.specs.declared.fault.ReadFault.{ReadFault}
use Rattle.ci_config.specs.declared.fault.ReadFault.TheVariants.{Here, Inside}

-- The patterns with which a reading gives an answer: all but those of the expression that is told of, where it is X8, and else all.
abbrev pub builds_with : ReadFault → Patterns
builds_with (Here (K13 X8)) = refused_at []
builds_with (Inside (K13 X8) way) = refused_at (way_view way)
builds_with fault = built

abbrev pub builds_for : {X : Type 0} → Result X ReadFault → Patterns
builds_for (Err fault) = builds_with fault
builds_for answer = built

-- a fault of the entry at the end of a way, or what follows where there is none
abbrev pub fault_or : List ℕ → Option Fault → Result Config Placed → Result Config Placed
fault_or way None next = next
fault_or way (Some f) next = fails_at way f

-- the same of a job, which stands behind so many entries
abbrev pub fault_of_job_or : Option (ConfigCode × ℕ) → Result Config Placed → Result Config Placed
fault_of_job_or None next = next
fault_of_job_or (Some f) next = fails_at (f.1 ∷ []) (code_view f.0)
