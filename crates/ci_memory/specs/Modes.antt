-- The process modes that are remembered are those of a state.
use Rattle.std.specs.Prelude.{◌≡◌, Bool, true, false}
use Rattle.ci_machine_steps.specs.Prelude.{Key, Record, RowChange, Put, Remove, State}
use Rattle.ci_memory.specs.declared.modes.Modes.{Modes}
use Rattle.ci_memory.specs.declared.modes.Modes.TheVariants.{Unknown, Many, All}

-- where they are remembered they are all
abbrev pub AreModes : Modes → State → Type 0
AreModes Unknown s = Unit {0}
AreModes Many s = Unit {0}
AreModes (All modes) s = modes.items ≡ s.modes

-- the change is of a mode
abbrev pub is_of_mode : RowChange → Bool
is_of_mode (Put (Record.Mode m)) = true
is_of_mode (Remove (Key.Mode n name)) = true
is_of_mode _ = false
