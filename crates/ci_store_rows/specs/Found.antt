-- What a query shows, as records.
use Rattle.std.specs.Prelude.{◌≡◌, ◌<◌, ◌⊎◌, List, [], ◌∷◌, ℕ, Option, None, Some}
use Rattle.std.specs.List.{AllZip}
use Rattle.ci_store.specs.Prelude.{Row, Shown, Ghosts, Held, state}
use Rattle.ci_store_rows.specs.declared.columns.TheConstants.{LAST_INTEGER}
use Rattle.ci_store_rows.specs.Rows.{number}

-- the rows that the query shows are those of these records
pub record ShowsRecords {S R : Type 0} (is_row : Row → R → Type 0) (g : Ghosts S) (sql : List ℕ) (params : Row) (old new : Held S) (found : List R) : Type 0 where
  pub rows : List Row
  pub shown : Shown sql params (state g old) (state g new) rows
  pub read : AllZip is_row rows found

-- the one record, if there is one
abbrev pub listed : {R : Type 0} → Option R → List R
listed None = []
listed (Some x) = x ∷ []

-- The record with this number was looked for: the query by the number showed it, if there is one; or the number is over the greatest integer
-- of SQL, nothing was found, and the query of the records above that integer showed none.
abbrev pub FindsNumber : {S R : Type 0} → (Row → R → Type 0) → Ghosts S → List ℕ → List ℕ → ℕ → Held S → Held S → Option R → Type 0
FindsNumber is_row g sql above id old new found =
    ShowsRecords is_row g sql (number id ∷ []) old new (listed found)
    ⊎ ((found ≡ None) × (LAST_INTEGER < id) × ShowsRecords is_row g above (number LAST_INTEGER ∷ []) old new [])
