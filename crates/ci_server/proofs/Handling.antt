-- From what an event did to a store to how it was handled.
use Rattle.std.proofs.Common.{ℕ, List, IfOk, ◌≡◌, inr, ⊎_elim, Bool, false, Result, Ok, Err, refl, sym, ap, subst, ◌∙◌}
use Rattle.std.proofs.lemmas.Bool.{false≢true}
use Rattle.ci_machine_steps.specs.Prelude.{Answer, RowChange, Event, State, applied, Kept, cleared, put_rows, written, IsSound, IsReached, Happens, Step, outcome_of}
use Rattle.ci_server_lookups.specs.Prelude.{StoreFault, Memory, Broken}
use Rattle.ci_store.specs.Prelude.{Ends}
use Rattle.ci_server.specs.Prelude.{FailStop, IsKeptOf, Holds, Leaves, Call, answer_by, closed_by, Performs, Handled, answered, no_memory, look_failed, commit_failed, HandlesBy}
use Rattle.ci_server_events.specs.declared.planned.Beside.{Beside}
use Rattle.ci_server_events.specs.Planning.{Settles}
use Rattle.ci_server.proofs.Keeping.{settled}
use Rattle.ci_server.proofs.Runs.{AllStep, outcome-M16, outcome-M17}

module _ {T : Type 0} (keeps : T → Kept → Type 0) (leaves : T → Kept → Kept → Type 0) {A : Type 0} (as_answer : A → Answer) (c : Call) where
  -- it happens in the state that is kept: its changes were committed with what changes beside them, or not
  performs : (k : Kept) → IsKeptOf k.state k → (jobs : List ℕ) (a : A) (changes : List RowChange) (beside : Beside) (new : T) (r : Result A StoreFault) → Happens k.state k.board c.0 c.1 c.2 (as_answer a) changes
      → Settles (cleared jobs k) changes beside → IfOk r (λ x. x ≡ a)
      → Ends r (keeps new (written changes beside.rows.items beside.indexes.items (cleared jobs k))) (keeps new k) (leaves new k (written changes beside.rows.items beside.indexes.items (cleared jobs k)))
      → Performs (Holds keeps) (Leaves leaves) as_answer c k.state new r
  performs k of jobs a changes beside new (Ok x) does settles same held = (
    applied changes k.state,
    record { before = k.board; are_before = of.are_board; changes = changes; happens = subst (λ b. Happens k.state k.board c.0 c.1 c.2 (as_answer b) changes) (sym same) does; state = refl; after = put_rows beside.rows.items (cleared jobs k).board; are_after = settles.board },
    record { kept = written changes beside.rows.items beside.indexes.items (cleared jobs k); is_of = settled (cleared jobs k) changes beside settles; held = held },
  )
  performs k of jobs a changes beside new (Err Memory) does settles same held = record { kept = k; is_of = of; held = held }
  performs k of jobs a changes beside new (Err Broken) does settles same left = inr (
    as_answer a,
    applied changes k.state,
    record { before = k.board; are_before = of.are_board; changes = changes; happens = does; state = refl; after = put_rows beside.rows.items (cleared jobs k).board; are_after = settles.board },
    record { before = k; after = written changes beside.rows.items beside.indexes.items (cleared jobs k); is_before = of; is_after = settled (cleared jobs k) changes beside settles; left = left },
  )

  -- the changes of the event's plan were committed with what changes beside them, or not
  pub performed : (s : State) (k : Kept) → IsKeptOf s k → (jobs : List ℕ) (a : A) (changes : List RowChange) (beside : Beside) (new : T) (r : Result A StoreFault) → Happens k.state k.board c.0 c.1 c.2 (as_answer a) changes
      → Settles (cleared jobs k) changes beside → IfOk r (λ x. x ≡ a)
      → Ends r (keeps new (written changes beside.rows.items beside.indexes.items (cleared jobs k))) (keeps new k) (leaves new k (written changes beside.rows.items beside.indexes.items (cleared jobs k)))
      → Performs (Holds keeps) (Leaves leaves) as_answer c s new r
  performed s k of jobs a changes beside new r does settles same ends =
      subst (λ t. Performs (Holds keeps) (Leaves leaves) as_answer c t new r) of.state
      (performs k (subst (λ t. IsKeptOf t k) (sym of.state) of) jobs a changes beside new r does settles same ends)

module _ {T : Type 0} (honest : T → Type 0) (holds : T → State → Type 0) (leaves : T → State → State → Type 0) {A : Type 0} (as_answer : A → Answer) (c : Call) where
  ended : AllStep → (s : State) (new : T) (closed : Bool) (r : Result A StoreFault) (a : Answer) → a ≡ answer_by as_answer c.0 r → closed ≡ closed_by (outcome_of a) false
      → Performs holds leaves as_answer c s new r → Handled holds leaves c s new closed a
  ended steps s new closed (Ok x) a is closes p =
      answered p.0 (subst (λ b. Step s c.0 c.1 c.2 b p.0) (sym is) p.1) p.2 (closes ∙ ap (λ o. closed_by o false) (ap outcome_of is ∙ steps s p.0 c.0 c.1 c.2 (as_answer x) p.1))
  ended steps s new closed (Err Memory) a is closes held = no_memory is held (closes ∙ ap (λ o. closed_by o false) (ap outcome_of is ∙ outcome-M16 c.0))
  ended steps s new closed (Err Broken) a is closes failed =
      let shut = closes ∙ ap (λ o. closed_by o false) (ap outcome_of is ∙ outcome-M17 c.0) in
      ⊎_elim (λ left. look_failed is left shut) (λ p. commit_failed p.0 p.1 p.2 is p.3 shut) failed

  -- an event of an open server, by what it did to the store
  pub handled : AllStep → ((s : State) → IsReached s → IsSound s) → (old new : FailStop T) (r : Result A StoreFault) (a : Answer) → old.closed ≡ false → a ≡ answer_by as_answer c.0 r → new.closed ≡ closed_by (outcome_of a) false
      → new.migrated ≡ old.migrated → (honest new.store → honest old.store) → (honest new.store → (s : State) → IsSound s → holds old.store s → Performs holds leaves as_answer c s new.store r) → HandlesBy honest holds leaves old c new a
  handled steps sound old new r a was is closes same back does = record {
    was_honest = back;
    while_open = λ _ h s reached held. ended steps s new.store new.closed r a is closes (does h s (sound s reached) held);
    once_closed = λ shut. absurd (false≢true (sym was ∙ shut));
    closes = closes ∙ ap (closed_by (outcome_of a)) (sym was);
    same_opening = same;
  }

-- an event that is this one was handled as this one
pub handled_as : {T : Type 0} {honest : T → Type 0} {holds : T → State → Type 0} {leaves : T → State → State → Type 0} {old new : FailStop T} {a : Answer} (c : Call) (e : Event)
    → e ≡ c.0 → HandlesBy honest holds leaves old (e, c.1, c.2) new a → HandlesBy honest holds leaves old c new a
handled_as {honest = honest} {holds = holds} {leaves = leaves} {old = old} {new = new} {a = a} (event, now, seed) e same handled =
    subst (λ (w : Event). HandlesBy honest holds leaves old (w, now, seed) new a) same handled
