-- How loads meet one after the other.
use Rattle.std.proofs.Common.{◌≡◌, Result, Ok, Err, IfOk, subst}
use Rattle.ci_store.specs.Prelude.{Kept, LoadsBy, UnlessBroken}
use Rattle.ci_store.specs.declared.fault.StoreFault.{StoreFault}
use Rattle.ci_store.specs.declared.fault.StoreFault.TheVariants.{Memory, Broken}
use Rattle.ci_store_rows.proofs.Reading.{if_ok}

pub unless_broken : {A P : Type 0} (r : Result A StoreFault) → P → UnlessBroken r P
unless_broken (Ok x) p = p
unless_broken (Err Memory) p = p
unless_broken (Err Broken) p = tt

module _ {T : Type 0} {honest : T → Type 0} {holds : T → Kept → Type 0} {leaves : T → Kept → Kept → Type 0} where
  -- an answer that follows from another
  pub answered_so : {A : Type 0} {old new : T} {r : Result A StoreFault} {P Q : Kept → A → Type 0} → LoadsBy honest holds leaves old new r P → ((k : Kept) → holds old k → (x : A) → P k x → Q k x) → LoadsBy honest holds leaves old new r Q
  answered_so {r = r} load so = record {
    was_honest = load.was_honest;
    kept = load.kept;
    left = load.left;
    answered = λ clean k at. if_ok r (so k at) (load.answered clean k at);
  }

  -- a load from the same store under another name
  pub begun : {A : Type 0} {old before new : T} {r : Result A StoreFault} {P : Kept → A → Type 0} → old ≡ before → LoadsBy honest holds leaves old new r P → LoadsBy honest holds leaves before new r P
  begun {new = new} {r = r} {P = P} same load = subst (λ t. LoadsBy honest holds leaves t new r P) same load

  -- what is made of the answer of a load, without the store
  pub after_ok : {A B : Type 0} {old new : T} {x : A} {P : Kept → A → Type 0} {Q : Kept → B → Type 0} (r : Result B StoreFault) → LoadsBy honest holds leaves old new (Ok x) P → ((k : Kept) → holds old k → P k x → IfOk r (Q k))
      → LoadsBy honest holds leaves old new r Q
  after_ok r load so = record {
    was_honest = load.was_honest;
    kept = λ clean k at. unless_broken r (load.kept clean k at);
    left = load.left;
    answered = λ clean k at. so k at (load.answered clean k at);
  }
