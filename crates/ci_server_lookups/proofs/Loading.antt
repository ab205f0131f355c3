-- Loads one after the other.
use Rattle.std.proofs.Common.{◌≡◌, Result, Ok, Err, IfOk, IfErr, refl, sym, subst}
use Rattle.ci_machine_steps.specs.Prelude.{Kept}
use Rattle.ci_server_lookups.specs.Prelude.{StoreFault, Memory, Broken, StatusFault, as_store_fault, IsKept, HoldsKept}
use Rattle.ci_store.specs.Prelude.{LoadsBy, UnlessBroken}

unless : {A : Type 0} {P : Type 0} (r : Result A StoreFault) → P → UnlessBroken r P
unless (Ok x) p = p
unless (Err Memory) p = p
unless (Err Broken) p = tt

and_so : {A : Type 0} (P Q : Type 0) (r : Result A StoreFault) → UnlessBroken r P → Q → UnlessBroken r (P × Q)
and_so P Q (Ok x) p q = (p, q)
and_so P Q (Err Memory) p q = (p, q)
and_so P Q (Err Broken) p q = tt

pub on_ok : {A : Type 0} {P : A → Type 0} (r : Result A StoreFault) → ((y : A) → r ≡ Ok y → P y) → IfOk r P
on_ok (Ok y) f = f y refl
on_ok (Err e) f = tt

with_ok : {A : Type 0} {P Q : A → Type 0} (r : Result A StoreFault) → ((y : A) → r ≡ Ok y → P y → Q y) → IfOk r P → IfOk r Q
with_ok (Ok y) f p = f y refl p
with_ok (Err e) f p = tt

-- the last of three facts
pub third : {A : Type 0} (P Q R : A → Type 0) (r : Result A StoreFault) → IfOk r (λ y. P y × Q y × R y) → IfOk r R
third P Q R (Ok y) w = w.2
third P Q R (Err e) w = tt

-- what holds of an answer holds of it where it is handed on
pub carried : {A E F : Type 0} (P : A → Type 0) (found : Result A E) (r : Result A F) → IfOk r (λ a. found ≡ Ok a) → IfOk found P → IfOk r P
carried P found (Ok a) same is = subst (λ z. IfOk z P) same is
carried P found (Err e) same is = tt

-- what is so of a fault that was handed on as one of the store is so of that
pub handed_on : {A : Type 0} (P : StoreFault → Type 0) (found : Result A StatusFault) (r : Result A StoreFault) → IfOk found (λ a. r ≡ Ok a) → IfErr found (λ fault. r ≡ Err (as_store_fault fault))
    → IfErr found (λ fault. P (as_store_fault fault)) → IfErr r P
handed_on P (Ok a) r given cause is = subst (λ z. IfErr z P) (sym given) tt
handed_on P (Err fault) r given cause is = subst (λ z. IfErr z P) (sym cause) is

both_ok : {A : Type 0} (P Q : A → Type 0) (r : Result A StoreFault) → IfOk r P → IfOk r Q → IfOk r (λ y. P y × Q y)
both_ok P Q (Ok y) p q = (p, q)
both_ok P Q (Err e) p q = tt

module _ {T : Type 0} (honest : T → Type 0) (holds : T → Kept → Type 0) (leaves : T → Kept → Kept → Type 0) where
  -- an answer that nothing is looked up for
  pub stays : {B : Type 0} (R : Kept → B → Type 0) (a : T) (y : B) → ((k : Kept) → holds a k → leaves a k k) → ((k : Kept) → R k y) → LoadsBy honest holds leaves a a (Ok y) R
  stays R a y alone is = record {
    was_honest = λ h. h;
    kept = λ h k held. held;
    left = λ h k held. alone k held;
    answered = λ h k held. is k;
  }

  -- after a load that went well, whatever comes of it without the store
  pub ends : {A B : Type 0} {P : Kept → A → Type 0} (a b : T) (first : Result A StoreFault) (x : A) (r : Result B StoreFault) → first ≡ Ok x → LoadsBy honest holds leaves a b first P
      → LoadsBy honest holds leaves a b r (λ k y. P k x)
  ends {P = P} a b first x r is load = record {
    was_honest = load.was_honest;
    kept = λ h k held. unless r (subst (λ f. UnlessBroken f (holds b k)) is (load.kept h k held));
    left = load.left;
    answered = λ h k held. on_ok r (λ y e. subst (λ f. IfOk f (P k)) is (load.answered h k held));
  }

  -- a load that went well, and then more of them
  pub goes_on : {A B : Type 0} {P : Kept → A → Type 0} {Q : Kept → B → Type 0} (R : Kept → B → Type 0) (a b c : T) (first : Result A StoreFault) (x : A) (r : Result B StoreFault) → first ≡ Ok x
      → LoadsBy honest holds leaves a b first P → LoadsBy honest holds leaves b c r Q → ((k : Kept) (y : B) → r ≡ Ok y → P k x → Q k y → R k y) → LoadsBy honest holds leaves a c r R
  goes_on {P = P} R a b c first x r is load more then = record {
    was_honest = λ h. load.was_honest (more.was_honest h);
    kept = λ h k held. more.kept h k (mid h k held);
    left = λ h k held. more.left h k (mid h k held);
    answered = λ h k held. with_ok r (λ y e q. then k y e (subst (λ f. IfOk f (P k)) is (load.answered (more.was_honest h) k held)) q) (more.answered h k (mid h k held));
  }
    where
      mid : honest c → (k : Kept) → holds a k → holds b k
      mid h k held = subst (λ f. UnlessBroken f (holds b k)) is (load.kept (more.was_honest h) k held)

  -- what is known of both, where the first went well
  pub with_both : {A B : Type 0} {P : Kept → A → Type 0} {Q : Kept → B → Type 0} (a b c : T) (first : Result A StoreFault) (x : A) (r : Result B StoreFault) → first ≡ Ok x
      → LoadsBy honest holds leaves a b first P → LoadsBy honest holds leaves b c r Q → LoadsBy honest holds leaves a c r (λ k y. P k x × Q k y)
  with_both {P = P} {Q = Q} a b c first x r is load more = goes_on (λ k y. P k x × Q k y) a b c first x r is load more (λ k y e p q. (p, q))

  -- the same load, of which more follows
  pub says : {A : Type 0} {P : Kept → A → Type 0} (R : Kept → A → Type 0) (a b : T) (r : Result A StoreFault) → LoadsBy honest holds leaves a b r P → ((k : Kept) (y : A) → r ≡ Ok y → P k y → R k y)
      → LoadsBy honest holds leaves a b r R
  says R a b r load then = record {
    was_honest = load.was_honest;
    kept = load.kept;
    left = load.left;
    answered = λ h k held. with_ok r (λ y e p. then k y e p) (load.answered h k held);
  }

  -- what is made of a load's answer, and where it fails fails likewise
  pub carries : {A B : Type 0} {Q : Kept → A → Type 0} (f : B → A) (b c : T) (first : Result A StoreFault) (r : Result B StoreFault) → LoadsBy honest holds leaves b c first Q
      → IfOk r (λ y. first ≡ Ok (f y)) → IfErr r (λ e. first ≡ Err e) → LoadsBy honest holds leaves b c r (λ k y. Q k (f y))
  carries {Q = Q} f b c first (Ok y) load went failed = record {
    was_honest = load.was_honest;
    kept = λ h k held. subst (λ z. UnlessBroken z (holds c k)) went (load.kept h k held);
    left = load.left;
    answered = λ h k held. subst (λ z. IfOk z (Q k)) went (load.answered h k held);
  }
  carries {Q = Q} f b c first (Err e) load went failed = record {
    was_honest = load.was_honest;
    kept = λ h k held. subst (λ z. UnlessBroken z (holds c k)) failed (load.kept h k held);
    left = load.left;
    answered = λ h k held. tt;
  }

  -- an answer that is made of a load's
  pub gives : {A B : Type 0} {P : Kept → A → Type 0} (R : Kept → B → Type 0) (a b : T) (first : Result A StoreFault) (x : A) (y : B) → first ≡ Ok x → LoadsBy honest holds leaves a b first P
      → ((k : Kept) → P k x → R k y) → LoadsBy honest holds leaves a b (Ok y) R
  gives R a b first x y is load then = says R a b (Ok y) (ends a b first x (Ok y) is load) (λ k z e p. let same : y ≡ z = cc in subst (R k) same (then k p))

  -- two loads that went well, one after the other, and what comes of both
  pub so : {A B C : Type 0} {P : Kept → A → Type 0} {Q : Kept → B → Type 0} (R : Kept → C → Type 0) (a b c : T) (first : Result A StoreFault) (x : A) (second : Result B StoreFault) (y : B) (z : C)
      → first ≡ Ok x → second ≡ Ok y → LoadsBy honest holds leaves a b first P → LoadsBy honest holds leaves b c second Q → ((k : Kept) → P k x → Q k y → R k z) → LoadsBy honest holds leaves a c (Ok z) R
  so R a b c first x second y z is was load more then = gives R a c second y z was (with_both a b c first x second is load more) (λ k w. then k w.0 w.1)

  -- what two clauses say of one load
  pub loads_both : {A : Type 0} {P Q : Kept → A → Type 0} (a b : T) (r : Result A StoreFault) → LoadsBy honest holds leaves a b r P → LoadsBy honest holds leaves a b r Q → LoadsBy honest holds leaves a b r (λ k y. P k y × Q k y)
  loads_both {P = P} {Q = Q} a b r load more = record {
    was_honest = load.was_honest;
    kept = load.kept;
    left = load.left;
    answered = λ h k held. both_ok (P k) (Q k) r (load.answered h k held) (more.answered h k held);
  }

  -- a load of what is held is one of what is held and kept: so it may stand between others of that
  pub of_kept : {A : Type 0} {P : Kept → A → Type 0} (a b : T) (r : Result A StoreFault) → LoadsBy honest holds leaves a b r P → LoadsBy honest (HoldsKept holds) leaves a b r P
  of_kept a b r load = record {
    was_honest = load.was_honest;
    kept = λ h k held. and_so (holds b k) (IsKept k) r (load.kept h k held.0) held.1;
    left = λ h k held. load.left h k held.0;
    answered = λ h k held. load.answered h k held.0;
  }

-- ---- the same, by what is known of each load

module _ {T : Type 0} {honest : T → Type 0} {holds : T → Kept → Type 0} {leaves : T → Kept → Kept → Type 0} {A : Type 0} {P : Kept → A → Type 0} {a b : T} {first : Result A StoreFault} where
  pub if_kept : LoadsBy honest holds leaves a b first P → LoadsBy honest (HoldsKept holds) leaves a b first P
  if_kept load = of_kept honest holds leaves a b first load

  pub implies : {R : Kept → A → Type 0} → LoadsBy honest holds leaves a b first P → ((k : Kept) (y : A) → first ≡ Ok y → P k y → R k y) → LoadsBy honest holds leaves a b first R
  implies load then = says honest holds leaves _ a b first load then

  module _ {B : Type 0} {x : A} where
    pub closes : {r : Result B StoreFault} → first ≡ Ok x → LoadsBy honest holds leaves a b first P → LoadsBy honest holds leaves a b r (λ k y. P k x)
    closes is load = ends honest holds leaves a b first x _ is load

    -- after a load that went well, what comes of it without the store
    pub leads : {R : Kept → B → Type 0} {r : Result B StoreFault} → first ≡ Ok x → LoadsBy honest holds leaves a b first P → ((k : Kept) (y : B) → r ≡ Ok y → P k x → R k y) → LoadsBy honest holds leaves a b r R
    leads is load then = says honest holds leaves _ a b _ (closes is load) then

    pub yields : {R : Kept → B → Type 0} {y : B} → first ≡ Ok x → LoadsBy honest holds leaves a b first P → ((k : Kept) → P k x → R k y) → LoadsBy honest holds leaves a b (Ok y) R
    yields is load then = gives honest holds leaves _ a b first x _ is load then

    module _ {Q : Kept → B → Type 0} {c : T} where
      pub continues : {R : Kept → B → Type 0} {r : Result B StoreFault} → first ≡ Ok x → LoadsBy honest holds leaves a b first P → LoadsBy honest holds leaves b c r Q
          → ((k : Kept) (y : B) → r ≡ Ok y → P k x → Q k y → R k y) → LoadsBy honest holds leaves a c r R
      continues is load more then = goes_on honest holds leaves _ a b c first x _ is load more then

      pub joined : {r : Result B StoreFault} → first ≡ Ok x → LoadsBy honest holds leaves a b first P → LoadsBy honest holds leaves b c r Q → LoadsBy honest holds leaves a c r (λ k y. P k x × Q k y)
      joined is load more = with_both honest holds leaves a b c first x _ is load more

      pub both_yield : {C : Type 0} {R : Kept → C → Type 0} {second : Result B StoreFault} {y : B} {z : C} → first ≡ Ok x → second ≡ Ok y → LoadsBy honest holds leaves a b first P → LoadsBy honest holds leaves b c second Q
          → ((k : Kept) → P k x → Q k y → R k z) → LoadsBy honest holds leaves a c (Ok z) R
      both_yield is was load more then = so honest holds leaves _ a b c first x _ _ _ is was load more then
