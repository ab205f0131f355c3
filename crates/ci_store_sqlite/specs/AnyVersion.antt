-- What an opening finds of a store, of version 1 or 2, and why it is refused.
use Rattle.std.specs.Prelude.{Bool, true, false, codes}
use Rattle.ci_store.specs.Prelude.{Database}
use Rattle.ci_store_sqlite.specs.declared.tables.OpenFault.{OpenFault}
use Rattle.ci_store_sqlite.specs.declared.tables.OpenFault.TheVariants.{O1, O2, O3, Memory}
use Rattle.ci_store_sqlite.specs.Open.{HasNumber, LacksNumber, Blames}

-- the version that `meta` had: 1 of a store that was migrated, and else 2
abbrev pub HadVersion : Bool → Database → Type 0
HadVersion true db = HasNumber (codes "version") 1 db
HadVersion false db = HasNumber (codes "version") 2 db

-- what a refusal to open says of the database: O2, that its version is neither 2 nor 1
abbrev pub BlamesAny : OpenFault → Database → Type 0
BlamesAny O1 db = Blames O1 db
BlamesAny O2 db = Blames O2 db × LacksNumber (codes "version") 1 db
BlamesAny O3 db = Blames O3 db
BlamesAny Memory db = Blames Memory db
