-- The runners that are remembered are those of a state.
use Rattle.std.specs.Prelude.{◌≡◌, Bool, true, false}
use Rattle.ci_machine_steps.specs.Prelude.{Key, Record, RowChange, Put, Remove, State}
use Rattle.ci_memory.specs.declared.runners.Runners.{Runners}
use Rattle.ci_memory.specs.declared.runners.Runners.TheVariants.{Unknown, Many, All}

-- where they are remembered they are all
abbrev pub AreRunners : Runners → State → Type 0
AreRunners Unknown s = Unit {0}
AreRunners Many s = Unit {0}
AreRunners (All runners) s = runners.items ≡ s.runners

-- the change is of a runner
abbrev pub is_of_runner : RowChange → Bool
is_of_runner (Put (Record.Runner r)) = true
is_of_runner (Remove (Key.Runner n)) = true
is_of_runner _ = false
