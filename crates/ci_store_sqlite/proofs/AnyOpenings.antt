-- What an opening finds, and what it leaves.
use Rattle.std.proofs.Common.{◌≡◌, ◌≢◌, ◌∙◌, codes, inl, ⊎_elim, arith, IsTrue, refl, sym, ap, subst}
use Rattle.ci_store.specs.Prelude.{Trees, Database, IsDatabase, HasCleanDisk, Survives, IsUnchanged, Ghosts, Held, state, Kept}
use Rattle.ci_store_sqlite.specs.Prelude.{StandsIn, LeavesOnly, HasNumber, LacksNumber, Blames, IsFailure, LeavesNoMore, OpenFault, O1, O2, O3, Memory, LeavesAny, BlamesAny}
use Rattle.ci_store_sqlite.proofs.Versions.{StandsAny, open_any, never_blamed_any, is_of_2}

-- what is said of a foreign store is said of one of either version, where O2 is said of both
pub blames_any : (db : Database) (fault : OpenFault) → Blames fault db → (fault ≡ O2 → LacksNumber (codes "version") 1 db) → BlamesAny fault db
blames_any db O1 blames lacks = blames
blames_any db O2 blames lacks = (blames, lacks refl)
blames_any db O3 blames lacks = tt
blames_any db Memory blames lacks = tt

-- a refusal to migrate, by what is known of it
pub refuses_any : (db : Database) (fault : OpenFault) → fault ≢ O1 → Blames O2 db → (fault ≡ O2 → LacksNumber (codes "version") 1 db) → BlamesAny fault db
refuses_any db O1 other blames lacks = absurd (other refl)
refuses_any db O2 other blames lacks = (blames, lacks refl)
refuses_any db O3 other blames lacks = tt
refuses_any db Memory other blames lacks = tt

module _ {S : Type 0} (g : Ghosts S) (old : Held S) (settled : IsTrue (state g old).is_open → (state g old).now ≡ (state g old).committed) (sound : IsTrue (state g old).is_open → IsDatabase (state g old).now)
    (may : IsTrue (state g old).is_open → (state g old).may_leave (state g old).committed.trees) where
  stands_any : IsTrue (state g old).is_open → (k : Kept) → LeavesAny g k old → StandsAny k (state g old).now
  stands_any is_open k any = open_any g k old (settled is_open) (sound is_open) (may is_open) any

  -- a fault that says what a store isn't comes of none that stands for what is kept
  pub own_fault : (new : Held S) (fault : OpenFault) → (¬ IsFailure fault → IsUnchanged (state g old) (state g new)) → BlamesAny fault (state g old).now → (k : Kept) → LeavesAny g k old → IsFailure fault
  own_fault new O1 unchanged blames k any = never_blamed_any k (state g old).now (stands_any (unchanged (λ x. x)).0.was_open k any) O1 blames
  own_fault new O2 unchanged blames k any = never_blamed_any k (state g old).now (stands_any (unchanged (λ x. x)).0.was_open k any) O2 blames
  own_fault new O3 unchanged blames k any = tt
  own_fault new Memory unchanged blames k any = tt

  -- an open store of version 2 leaves files of version 2 alone
  pub only_2 : IsTrue (state g old).is_open → ((db : Trees) → IsTrue (state g old).is_open → (state g old).may_leave db → db ≡ (state g old).committed.trees) → HasNumber (codes "version") 2 (state g old).now
      → (k : Kept) → LeavesAny g k old → LeavesOnly g k old
  only_2 is_open alone has k any db leaves =
      let whole = is_of_2 k (state g old).now (stands_any is_open k any) has in
      subst (StandsIn k) (sym (alone db is_open leaves ∙ ap (λ (d : Database). d.trees) (sym (settled is_open)))) whole.inside

-- what a migration leaves of a store that was refused, and to which nothing had happened
module _ {S : Type 0} (g : Ghosts S) (old mid new : Held S) (less : LeavesNoMore g old mid) (same : HasCleanDisk (state g mid) → IsUnchanged (state g old) (state g mid))
    (survives : Survives (state g mid) (state g new) (λ db. HasNumber (codes "version") 1 (state g mid).now × ((k : Kept) → LeavesAny g k mid → StandsIn k db))) where
  early : HasCleanDisk (state g new) → HasCleanDisk (state g mid)
  early clean = omega (arith, clean, survives.clean)

  pub any_mid : HasCleanDisk (state g new) → (k : Kept) → LeavesAny g k old → LeavesAny g k mid
  any_mid clean k any db leaves = any db (less (early clean) db leaves)

  pub left_of_2 : HasCleanDisk (state g new) → (k : Kept) → LeavesOnly g k old → LeavesOnly g k new
  left_of_2 clean k only db leaves =
      ⊎_elim (λ was. only db (less (early clean) db was)) (λ made. made.1 k (λ db may. inl (only db (less (early clean) db may)))) (survives.crash clean db leaves)

  -- what is said of it is said of the store as it was
  pub as_it_was : (P : Database → Type 0) → HasCleanDisk (state g new) → P (state g mid).now → P (state g old).now
  as_it_was P clean p = subst P (same (early clean)).0.now_is p
