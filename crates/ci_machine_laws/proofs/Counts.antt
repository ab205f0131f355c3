-- How many records of a list pass a test.
use Rattle.ci_machine_laws.proofs.Prelude.{cases_Bool, ◌≡◌, ℕ, suc, ◌+◌, ◌≤◌, Bool, true, false, List, [], ◌∷◌, length, map, filter, nat_cmp, sym, ap, ◌∙◌, inl, inr, ⊎_elim}
use Rattle.ci_machine_laws.proofs.Prelude.{refl, arith, cond_both, length-append, filter-append, Has, Below, nat_less, put_behind}
use Rattle.ci_machine_steps.specs.Prelude.{put}

-- how many of a list pass
abbrev pub passing : {A : Type 0} → (A → Bool) → List A → ℕ
passing p xs = length (filter p xs)

pub passing_mapped : {A : Type 0} (p : A → Bool) (f : A → A) (xs : List A) → passing p (map f xs) ≡ passing (λ x. p (f x)) xs
passing_mapped p f [] = refl
passing_mapped p f (x ∷ xs) = ⊎_elim (λ e. rw e (ap suc (passing_mapped p f xs))) (λ e. rw e (passing_mapped p f xs)) (cases_Bool (p (f x)))

-- what passes the one test passes the other
pub passing_implied : {A : Type 0} (p q : A → Bool) (xs : List A) → ((x : A) → Has x xs → q x ≡ true → p x ≡ true) → passing q xs ≤ passing p xs
passing_implied p q [] h = omega arith
passing_implied p q (x ∷ xs) h =
    let rest = passing_implied p q xs (λ y k. h y (inr k)) in
    cond_both (q x) (x ∷ filter q xs) (filter q xs) (λ l. length l ≤ passing p (x ∷ xs))
    (λ e. rw (h x (inl refl) e) (omega arith))
    (λ e. cond_both (p x) (x ∷ filter p xs) (filter p xs) (λ l. passing q xs ≤ length l) (λ _. omega arith) (λ _. omega arith))

-- and one of them doesn't any more
pub passing_fewer : {A : Type 0} (p q : A → Bool) (xs : List A) → ((x : A) → Has x xs → q x ≡ true → p x ≡ true) → (x : A) → Has x xs → p x ≡ true → q x ≡ false → passing q xs + 1 ≤ passing p xs
passing_fewer p q [] h x k e f = absurd k
passing_fewer p q (z ∷ zs) h x k e f =
    ⊎_elim
    (λ s.
    let rest = passing_implied p q zs (λ y m. h y (inr m)) in
    let no_more : q z ≡ false = ap q (sym s) ∙ f in
    let before : p z ≡ true = ap p (sym s) ∙ e in
    rw no_more (rw before (omega arith)))
    (λ m.
    let rest = passing_fewer p q zs (λ y n. h y (inr n)) x m e f in
    cond_both (q z) (z ∷ filter q zs) (filter q zs) (λ l. length l + 1 ≤ passing p (z ∷ zs))
    (λ g. rw (h z (inl refl) g) (omega arith))
    (λ g. cond_both (p z) (z ∷ filter p zs) (filter p zs) (λ l. passing q zs + 1 ≤ length l) (λ _. omega arith) (λ _. omega arith)))
    k

-- a record behind all others
pub passing_new : {A : Type 0} (id : A → ℕ) (p : A → Bool) (x : A) (n : ℕ) (xs : List A) → Below id n xs → n ≤ id x → passing p xs ≤ passing p (put (λ a b. nat_cmp (id a) (id b)) x xs)
passing_new id p x n xs below l =
    rw (
      put_behind (λ a b. nat_cmp (id a) (id b)) x xs (λ y k. nat_less (id y) (id x) (omega (arith, below y k))),
      filter-append p xs (x ∷ []),
      length-append (filter p xs) (filter p (x ∷ [])),
    ) (omega arith)
