-- What calls inside a transaction find, and what they make of the tables where they keep what was found.
use Rattle.std.specs.Prelude.{ℕ, Result, IsTrue, IfOk, OnOk}
use Rattle.ci_store.specs.Prelude.{HasCleanDisk, Ghosts, Held, state, Kept, trace_of, Trace}
use Rattle.ci_store_rows.specs.Prelude.{Stands}

-- the trace of an attempt that the tables keep
abbrev pub kept_trace : ℕ → Kept → Trace
kept_trace attempt k = record { attempt = attempt; bytes = trace_of k.state attempt }

-- where a call inside a transaction ends well, the tables keep what they kept, and its answer is so of that
abbrev pub FindsInside : {S A E : Type 0} → Ghosts S → Held S → Held S → Result A E → (Kept → A → Type 0) → Type 0
FindsInside g old new result IsSo =
    HasCleanDisk (state g new) → IsTrue old.in_transaction → IfOk result (λ x. IsTrue new.in_transaction × ((k : Kept) → Stands k (state g old).now → Stands k (state g new).now × IsSo k x))

-- where a call inside a transaction ends well, the tables follow this change of what they keep, if that is so
abbrev pub MakesWhere : {S A E : Type 0} → Ghosts S → (Kept → Type 0) → (Kept → Kept) → Held S → Held S → Result A E → Type 0
MakesWhere g IsSo change old new result =
    HasCleanDisk (state g new) → IsTrue old.in_transaction → OnOk result (IsTrue new.in_transaction × ((k : Kept) → Stands k (state g old).now → IsSo k → Stands (change k) (state g new).now))
