-- What a call does to a server: a store; whether it is closed, as it is from the first fault of the store on; and whether its store was
-- migrated as it was opened.
use Rattle.std.specs.Prelude.{◌≡◌, Bool, true, false, List, [], ◌∷◌, map}
use Rattle.std.specs.Coded.{Coded, coded×, coded_bool}
use base.Stored.{coded_via}
use Rattle.std.proofs.Common.{ap}
use Rattle.ci_store.specs.Prelude.{HasCleanDisk, Ghosts, Held, state}
use Rattle.ci_memory.specs.declared.memory.Memory as memory
use Rattle.ci_memory.specs.declared.remembering.Remembering.{Remembering}
use Rattle.ci_machine_steps.specs.Prelude.{Answer, M17, State, empty, Kept, nothing_kept, IsReached, outcome_of}
use Rattle.ci_store_sqlite.specs.Prelude.{IsBlank, IsAt, LeavesOnly, LeavesAny, HadVersion}
use Rattle.ci_server.specs.declared.fail_stop.FailStop.{FailStop}
use Rattle.ci_server.specs.Holding.{IsKeptOf, HoldsIn, LeavesIn}
use Rattle.ci_server.specs.Handling.{Call, refused, Handled, closed_by}

abbrev pub fail_stop_code : {T : Type 0} → Coded T → Coded (FailStop T)
fail_stop_code code =
    coded_via (coded× code (coded× coded_bool coded_bool)) (λ s. (s.store, (s.closed, s.migrated))) (λ x y e. ap (λ p. record { store = p.0; closed = p.1.0; migrated = p.1.1 }) e)

abbrev pub remembering_code : {T : Type 0} → Coded T → Coded (Remembering T)
remembering_code code = coded_via (coded× code memory.the_code) (λ m. (m.store, m.memory)) (λ x y e. ap (λ p. record { store = p.0; memory = p.1 }) e)

module _ {T : Type 0} (honest : T → Type 0) (holds : T → State → Type 0) (leaves : T → State → State → Type 0) where
  -- What a call does: on an open server that holds a state which a history leads to, what `Handled` says; on a closed one nothing, and the answer is M17. Over any disk it
  -- closes the server exactly where its answer is M17.
  pub record HandlesBy (old : FailStop T) (c : Call) (new : FailStop T) (a : Answer) : Type 0 where
    pub was_honest : honest new.store → honest old.store
    pub while_open : old.closed ≡ false → honest new.store → (s : State) → IsReached s → holds old.store s → Handled holds leaves c s new.store new.closed a
    pub once_closed : old.closed ≡ true → (a ≡ refused c.0 M17) × (new ≡ old)
    pub closes : new.closed ≡ closed_by (outcome_of a) old.closed
    -- whether the opening migrated the store stays
    pub same_opening : new.migrated ≡ old.migrated

  -- calls one after the other, each with its answer
  abbrev pub HandlesEachBy : FailStop T → List Call → List Answer → FailStop T → Type 0
  HandlesEachBy old [] [] new = new ≡ old
  HandlesEachBy old (c ∷ cs) (a ∷ rs) new = (mid : FailStop T) × HandlesBy old c mid a × HandlesEachBy mid cs rs new
  HandlesEachBy old [] (a ∷ rs) new = ⊥
  HandlesEachBy old (c ∷ cs) [] new = ⊥

-- whether a server is closed after calls with these answers, which was so before
abbrev pub closed_by_each : List Answer → Bool → Bool
closed_by_each [] before = before
closed_by_each (a ∷ rs) before = closed_by_each rs (closed_by (outcome_of a) before)

-- each call is refused with M17
abbrev pub each_refused : List Call → List Answer
each_refused cs = map (λ c. refused c.0 M17) cs

-- ---- over tables

-- a disk of the server that has given back what was written to it
abbrev pub IsHonest : {S : Type 0} → Ghosts S → Remembering (Held S) → Type 0
IsHonest g h = HasCleanDisk (state g h.store)

abbrev pub Handles : {S : Type 0} → Ghosts S → FailStop (Remembering (Held S)) → Call → FailStop (Remembering (Held S)) → Answer → Type 0
Handles g old c new a = HandlesBy (IsHonest g) (λ h s. HoldsIn g s h) (λ h s t. LeavesIn g s t h) old c new a

abbrev pub HandlesEach : {S : Type 0} → Ghosts S → FailStop (Remembering (Held S)) → List Call → List Answer → FailStop (Remembering (Held S)) → Type 0
HandlesEach g old cs rs new = HandlesEachBy (IsHonest g) (λ h s. HoldsIn g s h) (λ h s t. LeavesIn g s t h) old cs rs new

-- the store listed nothing, and the server is new over the tables that it made in it, which keep nothing
pub record Creates {S : Type 0} (g : Ghosts S) (conn : Held S) (new : FailStop (Remembering (Held S))) : Type 0 where
  pub is_open : new.closed ≡ false
  pub is_made : new.migrated ≡ false
  pub was_honest : IsHonest g new.store → HasCleanDisk (state g conn)
  pub was_blank : IsBlank g conn
  pub made : IsHonest g new.store → IsBlank g conn → IsAt g nothing_kept new.store.store
  -- this is the empty state, with what follows from it
  pub holds : IsHonest g new.store → HoldsIn g empty new.store

-- The server is new over the tables that this store has, and keeps what each file that a stop may leave stands for, as one of version 1 or 2. Its own
-- files are of version 2.
pub record Opens {S : Type 0} (g : Ghosts S) (conn : Held S) (new : FailStop (Remembering (Held S))) : Type 0 where
  pub is_open : new.closed ≡ false
  -- the store was migrated where its version was 1; else its version was 2
  pub found : IsHonest g new.store → HadVersion new.migrated (state g conn).now
  pub opened : IsHonest g new.store → (k : Kept) → LeavesAny g k conn → IsAt g k new.store.store
  -- so it holds the state that this is kept of
  pub holds : IsHonest g new.store → (s : State) (k : Kept) → IsKeptOf s k → LeavesAny g k conn → HoldsIn g s new.store

-- The opening failed, and what comes back is closed. What each file that a stop might have left stood for, each that it may leave now stands for:
-- as of version 1 or 2, and as of version 2 alone where they did.
pub record FailsToOpen {S : Type 0} (g : Ghosts S) (conn : Held S) (new : FailStop (Remembering (Held S))) : Type 0 where
  pub is_closed : new.closed ≡ true
  pub left : IsHonest g new.store → (k : Kept) → LeavesAny g k conn → LeavesAny g k new.store.store
  pub left_of_2 : IsHonest g new.store → (k : Kept) → LeavesOnly g k conn → LeavesOnly g k new.store.store
