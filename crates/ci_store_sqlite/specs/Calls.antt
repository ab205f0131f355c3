-- What a load makes of the tables.
use Rattle.std.specs.Prelude.{Result}
use Rattle.ci_store.specs.Prelude.{HasCleanDisk, Ghosts, Held, state, Kept, LoadsBy}
use Rattle.ci_store.specs.declared.fault.StoreFault.{StoreFault}
use Rattle.ci_store_rows.specs.Prelude.{IsAt, LeavesOnly, LeavesEither}

-- a call on tables only loads, and its answer is so of what a stop leaves
abbrev pub Loads : {S A : Type 0} → Ghosts S → Held S → Held S → Result A StoreFault → (Kept → A → Type 0) → Type 0
Loads g old new result IsSo = LoadsBy (λ t. HasCleanDisk (state g t)) (λ t k. LeavesOnly g k t) (λ t k l. LeavesEither g k l t) old new result IsSo

-- where it answers, the tables were open and kept that
abbrev pub LooksUp : {S A : Type 0} → Ghosts S → Held S → Held S → Result A StoreFault → (Kept → A → Type 0) → Type 0
LooksUp g old new result IsSo = Loads g old new result (λ k x. IsAt g k old × IsSo k x)
