-- What an opening finds of a store: whether `meta` has the format and the version, and why it is refused.
use Rattle.std.specs.Prelude.{◌≡◌, ◌⊎◌, ℕ, List, [], ◌∷◌, codes, Ok, Err}
use Rattle.ci_store.specs.Prelude.{Text, Row, column, Database, Reads, understood, reads_listing, IsSourceOf, Trees, HasCleanDisk, Ghosts, Held, state, Compiled, CompileError}
use Rattle.ci_store.specs.declared.fault.StoreFault.{StoreFault}
use Rattle.ci_store.specs.declared.fault.StoreFault.TheVariants.{Memory as Refused, Broken}
use Rattle.ci_store_rows.specs.declared.texts.TheConstants.{SELECT_META}
use Rattle.ci_store_sqlite.specs.declared.tables.OpenFault.{OpenFault}
use Rattle.ci_store_sqlite.specs.declared.tables.OpenFault.TheVariants.{O1, O2, O3, Memory}
use Rattle.ci_store_rows.specs.Prelude.{number}

-- a fault of the store is memory that was refused, or else that the store failed
abbrev pub open_fault_of : StoreFault → OpenFault
open_fault_of Refused = Memory
open_fault_of Broken = O3

-- the query of the rows of `meta` with this key answers these of a database, whatever its schema
pub record SelectsMeta (key : List ℕ) (rows : List Row) (db : Database) : Type 0 where
  pub plan : Compiled
  pub is : understood db.schema SELECT_META.now ≡ Ok plan
  pub source : Database
  pub from : IsSourceOf (reads_listing db.schema SELECT_META.now) db source
  pub read : Reads plan.command source (Text key ∷ []) rows

-- one row alone, with this number
abbrev pub IsNumber : ℕ → List Row → Type 0
IsNumber num rows = (row : Row) × (rows ≡ row ∷ []) × (column row 1 ≡ number num)

abbrev pub HasNumber : List ℕ → ℕ → Database → Type 0
HasNumber key num db = (rows : List Row) × SelectsMeta key rows db × IsNumber num rows

-- no table is as `meta`, or it has another number under the key, or none
abbrev pub LacksNumber : List ℕ → ℕ → Database → Type 0
LacksNumber key num db = ((fault : CompileError) × (understood db.schema SELECT_META.now ≡ Err fault)) ⊎ ((rows : List Row) × SelectsMeta key rows db × (¬ IsNumber num rows))

-- `meta` has the number of this format, and that of its version
pub record IsOurs (db : Database) : Type 0 where
  pub format : HasNumber (codes "format") 1128878163 db
  pub version : HasNumber (codes "version") 2 db

-- what a refusal to open says of the database
abbrev pub Blames : OpenFault → Database → Type 0
Blames O1 db = LacksNumber (codes "format") 1128878163 db
Blames O2 db = HasNumber (codes "format") 1128878163 db × LacksNumber (codes "version") 2 db
Blames O3 db = Unit {0}
Blames Memory db = Unit {0}

-- the store failed or lacked memory: nothing is said of what it holds
abbrev pub IsFailure : OpenFault → Type 0
IsFailure O1 = ⊥
IsFailure O2 = ⊥
IsFailure O3 = Unit {0}
IsFailure Memory = Unit {0}

-- a stop leaves nothing that it might not have left before
abbrev pub LeavesNoMore : {S : Type 0} → Ghosts S → Held S → Held S → Type 0
LeavesNoMore g old new = HasCleanDisk (state g new) → (db : Trees) → (state g new).may_leave db → (state g old).may_leave db
