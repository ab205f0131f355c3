-- A look-up on tables.
use Rattle.std.proofs.Common.{◌≡◌, ◌∙◌, ◌<◌, ◌≤◌, ℕ, List, [], ◌∷◌, length, get_or, Option, Some, None, false, Result, Ok, Err, is_err, IfOk, IsTrue, OnOk, refl, sym, subst, ⊎_elim, arith, inl}
use Rattle.std.specs.List.{AllZip}
use Rattle.ci_store.specs.Prelude.{Row, Schema, Database, IsDatabase, IsPlain, understood, reads_listing, IsSourceOf, HasCleanDisk, Survives, IsUnchanged, Shown, ShowsRows, Ghosts}
use Rattle.ci_store.specs.Prelude.{Held, state, Returning, Compiled, doubt, Kept, Ends}
use Rattle.sqlite.specs.Clock.{timed}
use Rattle.sqlite.specs.State.{State}
use Rattle.ci_store.specs.declared.fault.StoreFault.{StoreFault}
use Rattle.ci_store.specs.declared.fault.StoreFault.TheVariants.{Memory, Broken}
use Rattle.ci_store_sqlite.specs.Prelude.{the_schema, Stands, StandsIn, IsAt, LeavesOnly, LeavesEither, ShowsRecords, Loads, LooksUp}
use Rattle.ci_store_rows.proofs.Reading.{if_ok}
use Rattle.ci_store_rows.proofs.Whole.{stands_whole}
use Rattle.ci_store_sqlite.proofs.Loading.{unless_broken, answered_so, after_ok}

-- a call that needn't look
pub unasked : {S A : Type 0} (g : Ghosts S) (h : Held S) (x : A) (Q : Kept → A → Type 0) → ((k : Kept) → Q k x) → Loads g h h (Ok x) Q
unasked g h x Q so = record {
  was_honest = λ clean. clean;
  kept = λ clean k only. only;
  left = λ clean k only db may. inl (only db may);
  answered = λ clean k only. so k;
}

module _ {S : Type 0} {g : Ghosts S} {old new : Held S} where
  -- an answer that follows from another
  pub looked_so : {A : Type 0} {r : Result A StoreFault} {P Q : Kept → A → Type 0} → LooksUp g old new r P → ((k : Kept) → IsAt g k old → (x : A) → P k x → Q k x) → LooksUp g old new r Q
  looked_so load so = answered_so load (λ k only x h. (h.0, so k h.0 x h.1))

  pub loads_so : {A : Type 0} {r : Result A StoreFault} {P Q : Kept → A → Type 0} → LooksUp g old new r P → ((k : Kept) → IsAt g k old → (x : A) → P k x → Q k x) → Loads g old new r Q
  loads_so load so = answered_so load (λ k only x h. so k h.0 x h.1)

  -- what is made of the answer of a look-up, without the tables
  pub after_look : {A B : Type 0} {x : A} {P : Kept → A → Type 0} {Q : Kept → B → Type 0} (r : Result B StoreFault) → LooksUp g old new (Ok x) P → ((k : Kept) → IsAt g k old → P k x → IfOk r (Q k)) → LooksUp g old new r Q
  after_look r load so = after_ok r load (λ k only h. if_ok r (λ y is. (h.0, is)) (so k h.0 h.1))

-- ---- a look-up

unchanged_then : {a b c : State} → IsUnchanged a b → IsUnchanged b c → IsUnchanged a c
unchanged_then one two = (
  record {
    was_open = one.0.was_open;
    is_open = two.0.is_open;
    now_is = two.0.now_is ∙ one.0.now_is;
    committed_is = two.0.committed_is ∙ one.0.committed_is;
    mode = two.0.mode ∙ one.0.mode;
  },
  record { changes = two.1.changes ∙ one.1.changes; last_rowid = two.1.last_rowid ∙ one.1.last_rowid },
  two.2 ∙ one.2,
)

-- a query that shows rows shows them of the connection as it was before it was asked, too
shown_since : (sql : List ℕ) (params : Row) (old mid new : State) (rows : List Row) → IsPlain (understood mid.now.schema sql) → IsUnchanged old mid → Shown sql params mid new rows → Shown sql params old new rows
unfolding Shown
shown_since sql params old mid new rows plain same h =
    let it = h.1 in
    let none = (subst IsPlain it.is plain).0 in
    let values = timed params h.0.formats it.now in
    let shows = subst (ShowsRows mid new sql h.0 values rows) none h.2 in (
      h.0,
      record { is = subst (λ (db : Database). understood db.schema sql ≡ Ok h.0) same.0.now_is it.is; whole = it.whole; given = it.given; now = it.now },
      subst (ShowsRows old new sql h.0 values rows) (sym none) (shows.0, subst (λ (db : Database). IsSourceOf (reads_listing db.schema sql) db shows.0) same.0.now_is shows.1, shows.2, unchanged_then same shows.3),
    )

-- a connection that showed rows is open
shows_open : (sql : List ℕ) (params : Row) (c : Compiled) (old new : State) (rows : List Row) (how : Option Returning) → ShowsRows old new sql c params rows how → IsTrue new.is_open
shows_open sql params c old new rows None h = h.3.0.is_open
shows_open sql params c old new rows (Some what) h = h.1.shown.is_open

shown_open : (sql : List ℕ) (params : Row) (old new : State) (rows : List Row) → Shown sql params old new rows → IsTrue new.is_open
unfolding Shown
shown_open sql params old new rows h = shows_open sql (timed params h.0.formats h.1.now) h.0 old new rows h.0.returning h.2

-- where a look-up had no fault, the connection is open
pub if_shown : {A : Type 0} (sql : List ℕ) (params : Row) (old new : State) (r : Result A StoreFault) (rows : A → List Row) → is_err r ≡ false → IfOk r (λ x. Shown sql params old new (rows x)) → IsTrue new.is_open
if_shown sql params old new (Ok x) rows well shown = shown_open sql params old new (rows x) shown
if_shown sql params old new (Err fault) rows well shown = absurd (let e = well in cc)

-- a connection that is open, outside a transaction, keeps what alone a stop leaves
pub open_at : {S : Type 0} (g : Ghosts S) (k : Kept) (h : Held S) → IsTrue (state g h).is_open → (state g h).now ≡ (state g h).committed → IsDatabase (state g h).now → (state g h).may_leave (state g h).committed.trees → LeavesOnly g k h → IsAt g k h
open_at g k h is_open settled sound may only = record {
  is_open = is_open;
  now = stands_whole k (state g h).now sound (subst (λ (d : Database). StandsIn k d.trees) (sym settled) (only (state g h).committed.trees may));
  left = only;
}

module _ {S : Type 0} (g : Ghosts S) (old mid : Held S) (clean : doubt (state g old).is_clean ≤ doubt (state g mid).is_clean) where
  module _ (new : Held S) (sql : List ℕ) (plain : IsPlain (understood the_schema sql)) (same : HasCleanDisk (state g mid) → IsUnchanged (state g old) (state g mid))
      (intact : HasCleanDisk (state g mid) → (k : Kept) → LeavesOnly g k old → IsAt g k mid) (cleaner : doubt (state g mid).is_clean ≤ doubt (state g new).is_clean)
      (survives : HasCleanDisk (state g new) → IsPlain (understood (state g mid).now.schema sql) → Survives (state g mid) (state g new) (λ _. ⊥)) where
    plain_here : (k : Kept) → IsAt g k mid → IsPlain (understood (state g mid).now.schema sql)
    plain_here k at = subst (λ (schema : Schema). IsPlain (understood schema sql)) (sym at.now.listed) plain

    -- a query leaves what a stop may leave
    still_left : HasCleanDisk (state g new) → (k : Kept) → LeavesOnly g k old → LeavesOnly g k new
    still_left late k only db may =
        let at = intact (omega (arith, late, cleaner)) k only in
        ⊎_elim (at.left db) (λ x. absurd x) ((survives late (plain_here k at)).crash late db may)

    -- the connection was asked, and then for rows
    pub looks : {A : Type 0} (params : Row) (r : Result A StoreFault) (rows : A → List Row) → (HasCleanDisk (state g new) → IfOk r (λ x. Shown sql params (state g mid) (state g new) (rows x)))
        → LooksUp g old new r (λ _ x. Shown sql params (state g old) (state g new) (rows x))
    looks params r rows shown = record {
      was_honest = λ late. omega (arith, clean, cleaner, late);
      kept = λ late k only. unless_broken r (still_left late k only);
      left = λ late k only db may. inl (still_left late k only db may);
      answered = λ late k only.
          let early : HasCleanDisk (state g mid) = omega (arith, late, cleaner) in
          let at = intact early k only in
          let was = same early in
          if_ok r
          (λ x h. (record { is_open = was.0.was_open; now = subst (Stands k) was.0.now_is at.now; left = only }, shown_since sql params (state g old) (state g mid) (state g new) (rows x) (plain_here k at) was h))
          (shown late);
    }

-- what is said of a call that ended well, by what else is said of it
pub on_ok : {A E P Q : Type 0} (r : Result A E) → (P → Q) → OnOk r P → OnOk r Q
on_ok (Ok x) so h = so h
on_ok (Err e) so h = tt

pub on_any : {A E P : Type 0} (r : Result A E) → P → OnOk r P
on_any (Ok x) p = p
on_any (Err e) p = tt

-- ---- the rows that are read

pub none_read : {R : Type 0} (is_row : Row → R → Type 0) (rows : List Row) → length rows < 1 → AllZip is_row rows []
none_read is_row [] low = tt
none_read is_row (r ∷ rows) low = absurd (omega arith)

pub one_read : {R : Type 0} (is_row : Row → R → Type 0) (rows : List Row) (row : Row) (x : R) → 1 ≤ length rows → length rows < 2 → get_or rows 0 row ≡ row → is_row row x → AllZip is_row rows (x ∷ [])
one_read is_row [] row x high low first read = absurd (omega arith)
one_read is_row (r ∷ []) row x high low first read = (subst (λ r. is_row r x) (sym first) read, tt)
one_read is_row (r ∷ t ∷ rows) row x high low first read = absurd (omega arith)

-- the same query by parameters that are the same
pub by_params : {S R : Type 0} {is_row : Row → R → Type 0} {g : Ghosts S} {sql : List ℕ} {params others : Row} {old new : Held S} {found : List R} → params ≡ others → ShowsRecords is_row g sql params old new found
    → ShowsRecords is_row g sql others old new found
by_params {is_row = is_row} {g = g} {sql = sql} {old = old} {new = new} {found = found} same h = subst (λ row. ShowsRecords is_row g sql row old new found) same h

-- ---- a commit

pub ends : {S A : Type 0} (g : Ghosts S) (old new : Held S) (result : Result A StoreFault) (after : Kept → Kept) (k : Kept) → LeavesOnly g k old → OnOk result ((k : Kept) → LeavesOnly g k old → LeavesOnly g (after k) new)
    → (result ≡ Err Memory → LeavesOnly g k new) → LeavesEither g k (after k) new → Ends result (LeavesOnly g (after k) new) (LeavesOnly g k new) (LeavesEither g k (after k) new)
ends g old new (Ok x) after k at done kept left = done k at
ends g old new (Err Memory) after k at done kept left = kept refl
ends g old new (Err Broken) after k at done kept left = left

-- a look-up before it failed
pub ends_unbegun : {S A B : Type 0} (g : Ghosts S) (old new : Held S) (fault : StoreFault) (Q : Kept → A → Type 0) (after : Kept → Kept) (k : Kept) (result : Result B StoreFault) → result ≡ Err fault → Loads g old new (Err fault) Q
    → HasCleanDisk (state g new) → LeavesOnly g k old → Ends result (LeavesOnly g (after k) new) (LeavesOnly g k new) (LeavesEither g k (after k) new)
ends_unbegun g old new fault Q after k (Ok x) same load clean at = absurd (let e = same in cc)
ends_unbegun g old new Memory Q after k (Err Memory) same load clean at = load.kept clean k at
ends_unbegun g old new Broken Q after k (Err Memory) same load clean at = absurd (let e = same in cc)
ends_unbegun g old new fault Q after k (Err Broken) same load clean at = λ db may. inl (⊎_elim (λ was. was) (λ was. was) (load.left clean k at db may))
