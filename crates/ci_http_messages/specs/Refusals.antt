-- Why a part of a request wasn't read.
use Rattle.std.specs.Prelude.{◌≡◌, ◌⊎◌, Option, None}
use Rattle.ci_machine.specs.declared.reply.Code.{Code}
use Rattle.ci_machine.specs.declared.reply.Code.TheVariants.{M16, H7}

-- why a part of a request wasn't read: memory was refused, which is asked for only so; or there is no such part
abbrev pub IsWhyNot : {A : Type 0} → Type 0 → Code → Option A → Type 0
IsWhyNot Asks why found = ((why ≡ M16) × Asks) ⊎ ((why ≡ H7) × (found ≡ None))
