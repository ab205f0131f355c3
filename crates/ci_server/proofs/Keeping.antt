-- What is kept beside a state follows from it: where nothing is kept, after an event, in each file, and once a server is opened.
use Rattle.std.specs.List.{AllByRecursion}
use Rattle.std.specs.List.Sorted.{IsStrictlySortedBy}
use Rattle.std.proofs.Common.{nat_cmp, Less, ◌≡◌, inl, ⊎_elim, ℕ, Bool, true, false, List, [], ◌∷◌, map, IsTrue, refl, sym, subst, arith}
use Rattle.ci_store.specs.Prelude.{Trees, Ghosts, Held, state, HasCleanDisk}
use Rattle.ci_memory.specs.declared.remembering.Remembering.{Remembering}
use Rattle.ci_memory.specs.Right.{IsRight}
use Rattle.ci_memory_boards.specs.Order.{InOrder}
use Rattle.ci_machine_steps.specs.Prelude.{RowChange, Attempt, BoardRow, Job, State, empty, job_cmp, attempt_cmp, applied, Kept, nothing_kept, row_cmp, put_rows, written, IsSound}
use Rattle.ci_machine_steps.specs.Prelude.{AreBoard, AreHolders}
use Rattle.ci_store.specs.Stands as tables
use Rattle.ci_store_sqlite.specs.Prelude.{IsBlank, holder_row, StandsIn, IsAt, Rises, StandsIn1, StandsInAny, LeavesAny, HadVersion}
use Rattle.ci_store_sqlite.specs.Schema as table
use Rattle.ci_server_lookups.specs.Prelude.{IsKept}
use Rattle.ci_server_lookups.proofs.Changes.{state_stays, board_stays}
use Rattle.ci_server_events.specs.declared.planned.Beside.{Beside}
use Rattle.ci_server_events.specs.Planning.{Settles}
use Rattle.ci_server.specs.Prelude.{IsKeptOf, StandsAs, StandsFor, KeepsGroups, FailStop, IsHonest, Creates, Opens, FailsToOpen}

-- ---- the empty state

-- it has no rows
no_rows : AreBoard empty []
no_rows = record { keys = refl; each = λ p. record { is = λ i below. absurd (omega arith); each = λ i below. absurd (omega arith) } }

-- no group is held
no_holders : AreHolders empty []
unfolding IsStrictlySortedBy
no_holders = record { ascend = tt; held = λ i d below. absurd (omega (arith, below)); all = λ i d below. absurd (omega (arith, below)) }

pub nothing_is_kept : IsKeptOf empty nothing_kept
nothing_is_kept = record { state = refl; are_board = no_rows; are_indexes = record { held = no_holders; unfinished = refl } }

-- ---- an event

-- what is kept of a state that the machine may come to
pub is_kept : (s : State) (k : Kept) → IsSound s → IsKeptOf s k → IsKept k
is_kept s k sound of = record {
  sound = subst IsSound (sym of.state) sound;
  are_board = subst (λ t. AreBoard t k.board) (sym of.state) of.are_board;
  are_indexes = of.are_indexes;
}

-- what an event leaves is of the state after its changes
pub settled : (k : Kept) (changes : List RowChange) (beside : Beside) → Settles k changes beside
    → IsKeptOf (applied changes k.state) (written changes beside.rows.items beside.indexes.items k)
settled k changes beside settles =
    let changed : Kept = record k { state = applied changes k.state; board = put_rows beside.rows.items k.board } in
    record {
      state = state_stays beside.indexes.items changed;
      are_board = subst (AreBoard (applied changes k.state)) (sym (board_stays beside.indexes.items changed)) settles.board;
      are_indexes = settles.indexes;
    }

-- ---- a file

-- one of version 2 is one of version 1 or 2
pub as_of_2 : (of_2 : Bool) (k : Kept) (db : Trees) → StandsIn k db → StandsAs of_2 k db
as_of_2 true k db stands = stands
as_of_2 false k db stands = inl stands

pub as_any : (of_2 : Bool) (k : Kept) (db : Trees) → StandsAs of_2 k db → StandsInAny k db
as_any true k db stands = inl stands
as_any false k db stands = stands

-- of the tables that a file has, of either version, `holder` is the twelfth
holder_rows : (k : Kept) (db : Trees) → StandsInAny k db → tables.Holds table.holder (map holder_row k.holders) db
holder_rows k db stands =
    ⊎_elim
    (λ (two : StandsIn k db). two.tables.holds.1.1.1.1.1.1.1.1.1.1.1.0)
    (λ (one : StandsIn1 k db). one.tables.holds.1.1.1.1.1.1.1.1.1.1.1.0)
    stands

pub groups_in : (of_2 : Bool) (s : State) (db : Trees) → StandsFor of_2 s db → KeepsGroups s db
groups_in of_2 s db stands = record {
  holders = stands.kept.holders;
  are_holders = subst (λ t. AreHolders t stands.kept.holders) stands.is_of.state stands.is_of.are_indexes.held;
  rows = holder_rows stands.kept db (as_any of_2 stands.kept db stands.stands);
}

-- ---- an opening, over what a stop left

module _ {S : Type 0} (g : Ghosts S) (settled : (s : S) (db : Trees) → IsTrue (g.view s).is_open → g.recovers s db → db ≡ (g.view s).committed) where
  -- what an open connection has stands for what the file did
  pub leaves_any : (of_2 : Bool) (k : Kept) (conn : Held S) → IsTrue (state g conn).is_open → StandsAs of_2 k (state g conn).committed.trees → LeavesAny g k conn
  leaves_any of_2 k conn is_open stands = λ db may. subst (StandsInAny k) (sym (settled conn.store db is_open may)) (as_any of_2 k (state g conn).committed.trees stands)

  -- and so does what is left of it by an opening that fails
  pub still_stands : (of_2 : Bool) (k : Kept) (conn : Held S) (new : FailStop (Remembering (Held S))) → IsTrue (state g conn).is_open → StandsAs of_2 k (state g conn).committed.trees
      → FailsToOpen g conn new → IsHonest g new.store → (db : Trees) → (state g new.store.store).may_leave db → StandsAs of_2 k db
  still_stands true k conn new is_open stands fails honest = fails.left_of_2 honest k (λ db may. subst (StandsIn k) (sym (settled conn.store db is_open may)) stands)
  still_stands false k conn new is_open stands fails honest = fails.left honest k (leaves_any false k conn is_open stands)

-- ---- a new server

-- the records of a table stand by their numbers
ascend : {A : Type 0} (id : A → ℕ) (xs : List A) → Rises (λ a b. nat_cmp (id a) (id b)) xs → IsStrictlySortedBy nat_cmp (map id xs)
unfolding IsStrictlySortedBy
ascend id [] rise = tt
ascend id (x ∷ xs) rise = (behind xs rise.0, ascend id xs rise.1)
  where
    behind : (ys : List _) → AllByRecursion (λ y. nat_cmp (id x) (id y) ≡ Less) ys → AllByRecursion (λ n. nat_cmp (id x) n ≡ Less) (map id ys)
    behind [] all = tt
    behind (y ∷ ys) all = (all.0, behind ys all.1)

in_order : (k : Kept) → Rises job_cmp k.state.jobs → Rises attempt_cmp k.state.attempts → Rises row_cmp k.board → InOrder k
in_order k jobs attempts rows = record {
  jobs = ascend (λ (j : Job). j.id) k.state.jobs jobs;
  attempts = ascend (λ (a : Attempt). a.id) k.state.attempts attempts;
  rows = ascend (λ (r : BoardRow). r.job) k.board rows;
}

module _ {S : Type 0} (g : Ghosts S) (conn : Held S) (store : Remembering (Held S)) (right : (k : Kept) → InOrder k → IsRight store.memory k) where
  -- it is over tables that keep nothing
  pub creates : (IsHonest g store → HasCleanDisk (state g conn)) → IsBlank g conn → (IsHonest g store → IsBlank g conn → IsAt g nothing_kept store.store)
      → Creates g conn (record { store = store; closed = false; migrated = false })
  creates back blank made = record {
    is_open = refl;
    is_made = refl;
    was_honest = back;
    was_blank = blank;
    made = made;
    holds = λ honest. record { kept = nothing_kept; is_of = nothing_is_kept; held = ((made honest blank).left, right nothing_kept (in_order nothing_kept tt tt tt)) };
  }

  -- it is over the tables that were found
  pub opens : (migrated : Bool) → (IsHonest g store → HadVersion migrated (state g conn).now) → (IsHonest g store → (k : Kept) → LeavesAny g k conn → IsAt g k store.store)
      → Opens g conn (record { store = store; closed = false; migrated = migrated })
  opens migrated had found = record {
    is_open = refl;
    found = had;
    opened = found;
    holds = λ honest s k of any.
        let at = found honest k any in
        record { kept = k; is_of = of; held = (at.left, right k (in_order k at.now.inside.regular.jobs at.now.inside.regular.attempts at.now.inside.regular.board)) };
  }
