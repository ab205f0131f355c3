-- What a call leaves of a store: what it keeps, a state with rows of statuses, and what a stop may leave.
use Rattle.std.specs.Prelude.{Result, Ok, Err, IfOk}
use Rattle.ci_machine.specs.Prelude.{Kept}
use Rattle.ci_store.specs.declared.fault.StoreFault.{StoreFault}
use Rattle.ci_store.specs.declared.fault.StoreFault.TheVariants.{Memory, Broken}

-- a fact where the call did what it was asked or lacked memory
abbrev pub UnlessBroken : {A : Type 0} → Result A StoreFault → Type 0 → Type 0
UnlessBroken (Ok x) P = P
UnlessBroken (Err Memory) P = P
UnlessBroken (Err Broken) P = Unit {0}

-- one fact for each way in which the call ends
abbrev pub Ends : {A : Type 0} → Result A StoreFault → Type 0 → Type 0 → Type 0 → Type 0
Ends (Ok x) done memory broken = done
Ends (Err Memory) done memory broken = memory
Ends (Err Broken) done memory broken = broken

-- A call that only loads: its answer is so of what the store keeps. Unless the store fails, it keeps that still; and a stop leaves that
-- alone, however the call ends.
-- All of it stands under an honest disk: one that has given back, up to the call's end, what was written to it.
pub record LoadsBy {T A : Type 0} (honest : T → Type 0) (holds : T → Kept → Type 0) (leaves : T → Kept → Kept → Type 0) (old new : T) (result : Result A StoreFault) (IsSo : Kept → A → Type 0) : Type 0 where
  pub was_honest : honest new → honest old
  pub kept : honest new → (k : Kept) → holds old k → UnlessBroken result (holds new k)
  pub left : honest new → (k : Kept) → holds old k → leaves new k k
  pub answered : honest new → (k : Kept) → holds old k → IfOk result (IsSo k)
