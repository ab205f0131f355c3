-- What is found in a list, and what an answer has.
use Rattle.std.proofs.Common.{◌≡◌, ℕ, Bool, true, ◌==◌, List, map, find, Option, Some, None, Result, Ok, Err, IfErr, Contains, option_map, IsErrAnd, refl, sym}
use Rattle.std.proofs.Common.{subst}
use Rattle.ci_machine.proofs.Keyed.{has_find, contains_from_has, find-map}
use Rattle.ci_machine_steps.specs.Prelude.{Lease, Attempt, State, attempt_at, lease_at, lease_of}
use Rattle.ci_server_lookups.specs.Prelude.{StoreFault}

pub found_is_there : {A : Type 0} (p : A → Bool) (x : A) (xs : List A) → find p xs ≡ Some x → Contains xs x × (p x ≡ true)
found_is_there p x xs e = let w = has_find p x xs e in (contains_from_has x xs w.0, w.1)

-- what is found among images is the image of an element, and is what is looked for
pub found_in_map : {A B : Type 0} (f : A → B) (p : B → Bool) (xs : List A) (y : B) → find p (map f xs) ≡ Some y → (x : A) × Contains xs x × (f x ≡ y)
found_in_map f p xs y e = let w = find-map f p y xs e in (w.0, (found_is_there (λ x. p (f x)) w.0 xs w.1.1).0, w.1.0)

-- the attempt that a number names, with the limit of its job
pub leased : (s : State) (n : ℕ) (l : Lease) → lease_at s n ≡ Some l → Contains s.attempts l.attempt
leased s n l e = of (attempt_at s n) refl e
  where
    of : (o : Option Attempt) → attempt_at s n ≡ o → option_map (lease_of s) o ≡ Some l → Contains s.attempts l.attempt
    of None is same = absurd (cc)
    of (Some a) is same =
        let its : a ≡ l.attempt = cc in
        subst (Contains s.attempts) its (found_is_there (λ (b : Attempt). b.id == n) a s.attempts is).0

-- what is well done alike is the same
pub ok_is : {A : Type 0} (x y : A) → ◌≡◌ {A = Result A StoreFault} (Ok x) (Ok y) → x ≡ y
ok_is x y e = cc

-- what holds of a fault holds of it where it is handed on
pub passed_on : {A E : Type 0} (r : Result A E) (x : E) (P : E → Type 0) → IsErrAnd r (λ e. e ≡ x) → P x → IfErr r P
passed_on (Ok a) x P is p = tt
passed_on (Err e) x P is p = subst P (sym is) p
