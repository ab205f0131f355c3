-- What a transaction leaves, however it ends.
use Rattle.std.proofs.Common.{◌≡◌, ◌∙◌, inl, inr, ⊎_elim, IsTrue, true, false, refl, sym, ap, subst, arith}
use Rattle.ci_store.specs.Prelude.{Trees, Database, HasCleanDisk, Survives, KeepsInside, CommitsNothing, IsUnchanged, Shows, KeepsCommit, IsRolledBack, Ghosts, Held, state, Kept, nothing_kept}
use Rattle.sqlite.specs.State.{State as Seen}
use Rattle.sqlite.proofs.StateLemmas.{survives_then}
use Rattle.sqlite.proofs.InsideLemmas.{keeps_then}
use Rattle.ci_store_sqlite.specs.Prelude.{Makes, CommitsAll, IsBack, IsDone, IsBlank, Stands, StandsIn, IsAt, LeavesOnly, LeavesEither}

-- where nothing happens, a stop leaves what it left
pub survives_same : (s : Seen) (P : Trees → Type 0) → Survives s s P
survives_same s P = record { clean = omega arith; shield = λ h. h; counts = omega arith; limit = refl; closes = λ _ h. inl h; crash = λ _ db h. inl h }

-- ---- calls one after the other inside a transaction

-- the tables follow this change of what they keep
abbrev pub Follows : {S : Type 0} → Ghosts S → (Kept → Kept) → Held S → Held S → Type 0
Follows g change old new = (k : Kept) → Stands k (state g old).now → Stands (change k) (state g new).now

-- the calls so far left the transaction open, with this made of them, and committed nothing
pub record RunsInside {S : Type 0} (g : Ghosts S) (Made : Type 0) (old new : Held S) : Type 0 where
  pub done : HasCleanDisk (state g new) → IsTrue old.in_transaction → IsTrue new.in_transaction × Made
  pub kept : KeepsInside g old new
  pub survives : CommitsNothing g old new

pub runs_none : {S Made : Type 0} (g : Ghosts S) (old : Held S) → Made → RunsInside g Made old old
runs_none g old made = record { done = λ clean inside. (inside, made); kept = λ clean inside. record { was_open = λ h. h; committed = λ h. refl }; survives = survives_same _ _ }

module _ {S Made : Type 0} {g : Ghosts S} {old mid : Held S} (before : RunsInside g Made old mid) (new : Held S) (kept : KeepsInside g mid new) (survives : CommitsNothing g mid new) where
  was_clean : HasCleanDisk (state g new) → HasCleanDisk (state g mid)
  was_clean clean = omega (arith, clean, survives.clean)

  pub kept_after : KeepsInside g old new
  kept_after clean inside = keeps_then _ _ _ (before.kept (was_clean clean) inside) (kept clean (before.done (was_clean clean) inside).0)

  pub survives_after : CommitsNothing g old new
  survives_after = survives_then _ _ _ _ _ _ (λ _ db none. none) (λ _ db none. none) before.survives survives

  pub runs_more : {More : Type 0} → (HasCleanDisk (state g new) → IsTrue mid.in_transaction → Made → IsTrue new.in_transaction × More) → RunsInside g More old new
  runs_more more = record { done = λ clean inside. let was = before.done (was_clean clean) inside in more clean was.0 was.1; kept = kept_after; survives = survives_after }

-- one change more
pub follows_more : {S : Type 0} {g : Ghosts S} {old mid : Held S} (done change next : Kept → Kept) → RunsInside g (Follows g done old mid) old mid → (new : Held S) → KeepsInside g mid new → CommitsNothing g mid new
    → (HasCleanDisk (state g new) → IsTrue mid.in_transaction → Makes g change mid new) → ((k : Kept) → next k ≡ change (done k)) → RunsInside g (Follows g next old new) old new
follows_more {g = g} done change next before new kept survives makes step =
    runs_more before new kept survives (λ clean inside was. let more = makes clean inside in (more.0, λ k stands. subst (λ k. Stands k (state g new).now) (sym (step k)) (more.1 (done k) (was k stands))))

-- ---- what the store holds after a transaction

module _ {S : Type 0} (g : Ghosts S) where
  -- a store that is as the last commit left it, and open, holds what it held
  pub back_at : (k : Kept) (old mid new : Held S) → IsAt g k old → (state g old).now ≡ (state g old).committed → IsBack g old mid → IsUnchanged (state g mid) (state g new)
      → ((db : Trees) → IsTrue (state g new).is_open → (state g new).may_leave db → db ≡ (state g new).committed.trees) → IsAt g k new
  back_at k old mid new at settled back same only =
      let was = back.back same.0.was_open in
      let now : (state g new).now ≡ (state g old).now = same.0.now_is ∙ was.0 ∙ sym settled in
      let committed : (state g new).committed ≡ (state g old).now = same.0.committed_is ∙ was.1 ∙ sym settled in
      record {
        is_open = same.0.is_open;
        now = subst (Stands k) (sym now) at.now;
        left = λ db may. subst (StandsIn k) (sym (only db same.0.is_open may ∙ ap (λ (d : Database). d.trees) committed)) at.now.inside;
      }

  -- what is done and committed is what alone a stop leaves
  pub done_only : (change : Kept → Kept) (k : Kept) (old new : Held S) → IsAt g k old → IsDone g change old new → ((db : Trees) → IsTrue (state g new).is_open → (state g new).may_leave db → db ≡ (state g new).committed.trees) → LeavesOnly g (change k) new
  done_only change k old new at done only db may = subst (StandsIn (change k)) (sym (only db done.is_open may ∙ ap (λ (d : Database). d.trees) done.committed)) (done.stands k at.now).inside

  -- a stop after it leaves the state before the changes or the one after them
  pub left_either : (change : Kept → Kept) (k : Kept) (old mid new : Held S) → IsAt g k old → HasCleanDisk (state g new) → Survives (state g old) (state g mid) (CommitsAll g change old) → Survives (state g mid) (state g new) (λ _. ⊥)
      → LeavesEither g k (change k) new
  left_either change k old mid new at clean first second db may =
      let early : HasCleanDisk (state g mid) = omega (arith, clean, second.clean) in
      ⊎_elim (λ was. ⊎_elim (λ before. inl (at.left db before)) (λ done. inr (done k at.now)) (first.crash early db was)) (λ none. absurd none) (second.crash clean db may)

  -- ---- a transaction from its begin to its end, after which the connection is the caller's again

  -- what is left after it is what was left before, or what it commits
  pub survives_all : (old begun made ended : Held S) (new : Seen) → new ≡ state g ended → begun ≡ record old { in_transaction = true } → (P Q : Trees → Type 0) → Survives (state g begun) (state g made) (λ _. ⊥) → Survives (state g made) (state g ended) Q
      → (HasCleanDisk (state g ended) → (db : Trees) → Q db → P db) → Survives (state g old) new P
  survives_all old begun made ended new same begins P Q one two so =
      let first : Survives (state g old) (state g begun) (λ _. ⊥) =
      subst (λ h. Survives (state g old) (state g h) (λ _. ⊥)) (sym begins) (record { clean = omega arith; shield = λ h. h; counts = omega arith; limit = refl; closes = λ _ h. inl h; crash = λ _ db h. inl h }) in
      let inside = survives_then (state g old) (state g begun) (state g made) (λ _. ⊥) (λ _. ⊥) (λ _. ⊥) (λ _ db none. none) (λ _ db none. none) first one in
      subst (λ t. Survives (state g old) t P) (sym same) (survives_then (state g old) (state g made) (state g ended) (λ _. ⊥) Q P (λ _ db none. absurd none) so inside two)

  -- what is committed is what was made
  pub commits_all : (old begun made : Held S) → begun ≡ record old { in_transaction = true } → (change : Kept → Kept) (db : Trees) → Makes g change begun made → db ≡ (state g made).now.trees → CommitsAll g change old db
  commits_all old begun made begins change db makes is k stands = subst (λ t. StandsIn (change k) t) (sym is) (makes.1 k (subst (λ h. Stands k (state g h).now) (sym begins) stands)).inside

  pub commits_empty : (old begun made : Held S) → begun ≡ record old { in_transaction = true } → (db : Trees) → (IsBlank g begun → Stands nothing_kept (state g made).now) → db ≡ (state g made).now.trees → IsBlank g old → StandsIn nothing_kept db
  commits_empty old begun made begins db makes is blank = subst (λ t. StandsIn nothing_kept t) (sym is) (makes (subst (λ h. IsBlank g h) (sym begins) blank)).inside

  module _ (old begun made ended new : Held S) (same : new ≡ ended) (begins : begun ≡ record old { in_transaction = true }) where
    -- the transaction is undone
    pub is_back : KeepsCommit (state g begun) (state g made) → IsRolledBack (state g made) (state g ended) → IsBack g old new
    is_back kept undone =
        subst (λ h. IsBack g old h) (sym same)
        (record {
          was_open = λ h. subst (λ h. IsTrue (state g h).is_open) begins (kept.was_open (undone.was_open h));
          back = λ h.
              let committed = kept.committed (undone.was_open h) ∙ ap (λ h. (state g h).committed) begins in
              let was = undone.undone h in
              (was.0 ∙ committed, was.1 ∙ committed);
        })

    -- the changes are committed
    pub is_done_all : (change : Kept → Kept) → Makes g change begun made → Shows (state g made) (state g ended) (state g made).now (state g made).now false → IsDone g change old new
    is_done_all change makes shows =
        subst (λ h. IsDone g change old h) (sym same)
        (record {
          is_open = shows.is_open;
          stands = λ k stands. subst (Stands (change k)) (sym shows.now_is) (makes.1 k (subst (λ h. Stands k (state g h).now) (sym begins) stands));
          committed = shows.committed_is ∙ sym shows.now_is;
        })

    -- the tables of the empty state are committed
    pub is_at_empty : (IsBlank g begun → Stands nothing_kept (state g made).now) → Shows (state g made) (state g ended) (state g made).now (state g made).now false
        → ((db : Trees) → IsTrue (state g ended).is_open → (state g ended).may_leave db → db ≡ (state g ended).committed.trees) → IsBlank g old → IsAt g nothing_kept new
    is_at_empty makes shows only blank =
        let stands = makes (subst (IsBlank g) (sym begins) blank) in
        subst (IsAt g nothing_kept) (sym same)
        (record {
          is_open = shows.is_open;
          now = subst (Stands nothing_kept) (sym shows.now_is) stands;
          left = λ db may. subst (StandsIn nothing_kept) (sym (only db shows.is_open may ∙ ap (λ (d : Database). d.trees) shows.committed_is)) stands.inside;
        })
