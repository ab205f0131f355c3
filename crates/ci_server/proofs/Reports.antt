-- From what the look-ups of a report found to what it does to a server.
use Rattle.std.proofs.Common.{◌≡◌, Bool, true, false, Result, Ok, Err, sym, ap, subst, ◌∙◌}
use Rattle.std.proofs.lemmas.Bool.{false≢true}
use Rattle.ci_machine_steps.specs.Prelude.{Code, Kept, State, IsSound, IsReached}
use Rattle.ci_server_lookups.specs.Prelude.{StoreFault, Memory, Broken, IsKept, HoldsKept}
use Rattle.ci_store.specs.Prelude.{LoadsBy}
use Rattle.ci_server.specs.Prelude.{FailStop, IsKeptOf, Holds, Leaves, report_of, closed_after, Reported, ReportsBy}
use Rattle.ci_server.proofs.Keeping.{is_kept}

module _ {T : Type 0} (honest : T → Type 0) (holds : T → Kept → Type 0) (leaves : T → Kept → Kept → Type 0) {A : Type 0} (Tells : State → A → Type 0) where
  ended : (held : T → Kept → Type 0) → ((m : T) (k : Kept) → held m k → holds m k) → (s : State) (k : Kept) → IsKeptOf s k → (old new : T) (P : Kept → A → Type 0) (r : Result A StoreFault) (closed : Bool) → honest new → held old k → LoadsBy honest held leaves old new r P
      → ((x : A) → P k x → Tells s x) → closed ≡ closed_after (report_of r) false → Reported (Holds holds) (Leaves leaves) Tells s new closed (report_of r)
  ended held out s k of old new P (Ok x) closed clean at load so is = (so x (load.answered clean k at), record { kept = k; is_of = of; held = out new k (load.kept clean k at) }, is)
  ended held out s k of old new P (Err Memory) closed clean at load so is = (record { kept = k; is_of = of; held = out new k (load.kept clean k at) }, is)
  ended held out s k of old new P (Err Broken) closed clean at load so is = (record { before = k; after = k; is_before = of; is_after = of; left = load.left clean k at }, is)

  -- a report of an open server, by what was looked up of a store that holds what it does, or of which more is known where that is kept
  by_loads : (held : T → Kept → Type 0) → ((m : T) (k : Kept) → holds m k → IsKept k → held m k) → ((m : T) (k : Kept) → held m k → holds m k)
      → ((s : State) → IsReached s → IsSound s) → (old new : FailStop T) (P : Kept → A → Type 0) (r : Result A StoreFault) (answer : Result A Code) → old.closed ≡ false → answer ≡ report_of r → new.closed ≡ closed_after answer false
      → new.migrated ≡ old.migrated → LoadsBy honest held leaves old.store new.store r P → ((s : State) (k : Kept) → IsKeptOf s k → IsKept k → (x : A) → P k x → Tells s x)
      → ReportsBy honest (Holds holds) (Leaves leaves) old new Tells answer
  by_loads held into out sound old new P r answer was is closes same load so = record {
    was_honest = load.was_honest;
    while_open = λ _ clean s reached at.
        let kept = is_kept s at.kept (sound s reached) at.is_of in
        subst (Reported (Holds holds) (Leaves leaves) Tells s new.store new.closed) (sym is)
        (ended held out s at.kept at.is_of old.store new.store P r new.closed clean (into old.store at.kept at.held kept) load (λ x p. so s at.kept at.is_of kept x p)
        (closes ∙ ap (λ (a : Result A Code). closed_after a false) is));
    once_closed = λ shut. absurd (false≢true (sym was ∙ shut));
    closes = closes ∙ ap (closed_after answer) (sym was);
    same_opening = same;
  }

  pub reported : ((s : State) → IsReached s → IsSound s) → (old new : FailStop T) (P : Kept → A → Type 0) (r : Result A StoreFault) (answer : Result A Code) → old.closed ≡ false → answer ≡ report_of r → new.closed ≡ closed_after answer false
      → new.migrated ≡ old.migrated → LoadsBy honest holds leaves old.store new.store r P → ((s : State) (k : Kept) → IsKeptOf s k → IsKept k → (x : A) → P k x → Tells s x)
      → ReportsBy honest (Holds holds) (Leaves leaves) old new Tells answer
  reported = by_loads holds (λ m k at kept. at) (λ m k at. at)

  pub reported_kept : ((s : State) → IsReached s → IsSound s) → (old new : FailStop T) (P : Kept → A → Type 0) (r : Result A StoreFault) (answer : Result A Code) → old.closed ≡ false → answer ≡ report_of r → new.closed ≡ closed_after answer false
      → new.migrated ≡ old.migrated → LoadsBy honest (HoldsKept holds) leaves old.store new.store r P → ((s : State) (k : Kept) → IsKeptOf s k → IsKept k → (x : A) → P k x → Tells s x)
      → ReportsBy honest (Holds holds) (Leaves leaves) old new Tells answer
  reported_kept = by_loads (HoldsKept holds) (λ m k at kept. (at, kept)) (λ m k at. at.0)
