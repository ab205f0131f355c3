-- Jobs in sets and lists of numbers, and in classes.
use Rattle.std.proofs.Common.{◌≡◌, ◌⊎◌, ℕ, ◌<◌, Bool, false, List, [], ◌∷◌, length, Contains, slice_index_or, slice_set, sym, ap, subst, ◌∙◌, inl, inr, ⊎_elim, arith, suc, zero}
use Rattle.std.proofs.Common.{nat_cmp, is_eq}
use Rattle.std.specs.BTreeMap.{is_at}
use Rattle.std.specs.BTreeSet.{insert_key}
use Rattle.std.specs.Set.{remove_key}
use Rattle.std.proofs.lemmas.Bool.{not-true}
use Rattle.ci_machine.proofs.Keyed.{Has, has_from_contains, contains_from_has, same as same_number, unequal}
use Rattle.ci_memory_queue.specs.declared.queue.Asks.{Asks}
use Rattle.ci_memory_queue.specs.declared.queue.Class.{Class}
use Rattle.ci_memory_queue.specs.Covers.{IsAmong}

-- ---- lists

-- a list with one of its elements replaced
pub set_has : {A : Type 0} (y : A) (xs : List A) (i : ℕ) (x d : A) → i < length xs → Has y xs → (y ≡ slice_index_or xs i d) ⊎ Has y (slice_set xs i x)
set_has y [] i x d l h = absurd h
set_has y (z ∷ zs) zero x d l h = grind arith
set_has y (z ∷ zs) (suc i) x d l h = grind (arith, set_has y zs i x d)

pub set_new : {A : Type 0} (xs : List A) (i : ℕ) (x : A) → i < length xs → Has x (slice_set xs i x)
set_new [] i x h = grind arith
set_new (z ∷ zs) zero x h = grind arith
set_new (z ∷ zs) (suc i) x h = grind (arith, set_new zs i x)

-- ---- classes

-- by the class itself
pub among_one : (classes : List Class) (asks : Asks) (n : ℕ) (c : Class) → Has c classes → c.asks ≡ asks → Contains c.jobs.keys n → IsAmong classes asks n
among_one classes asks n c h e m = record { of = c; there = contains_from_has c classes h; same = e; has = m }

-- a class that is put in the place of another, which asks the same and has the job if that one had it, leaves it where it was
pub among_set : (classes : List Class) (i : ℕ) (d c : Class) (asks : Asks) (n : ℕ) → i < length classes → c.asks ≡ (slice_index_or classes i d).asks
    → ((slice_index_or classes i d).asks ≡ asks → Contains (slice_index_or classes i d).jobs.keys n → Contains c.jobs.keys n) → IsAmong classes asks n → IsAmong (slice_set classes i c) asks n
among_set classes i d c asks n within same keeps w =
    ⊎_elim
    (λ e. let asked : (slice_index_or classes i d).asks ≡ asks = ap (λ (x : Class). x.asks) (sym e) ∙ w.same in
    among_one (slice_set classes i c) asks n c (set_new classes i c within) (same ∙ asked) (keeps asked (subst (λ (x : Class). Contains x.jobs.keys n) e w.has)))
    (λ h. among_one (slice_set classes i c) asks n w.of h w.same w.has)
    (set_has w.of classes i c d within (has_from_contains w.of classes w.there))

-- ---- sets

insert_has : (xs : List ℕ) (k n : ℕ) → (n ≡ k) ⊎ Has n xs → Has n (insert_key nat_cmp xs k)
insert_has [] k n h = h
insert_has (x ∷ xs) k n h = grind (arith, insert_has xs k n, same_number k x)

pub put_has : (old new : List ℕ) (k n : ℕ) → new ≡ insert_key nat_cmp old k → (n ≡ k) ⊎ Contains old n → Contains new n
put_has old new k n e h = contains_from_has n new (subst (Has n) (sym e) (insert_has old k n (⊎_elim (λ s. inl s) (λ c. inr (has_from_contains n old c)) h)))

-- what doesn't pass is left
remove_keeps : (test : ℕ → Bool) (xs : List ℕ) (n : ℕ) → test n ≡ false → Has n xs → Has n (remove_key test xs)
remove_keeps test [] n out h = absurd h
remove_keeps test (x ∷ xs) n out h = grind (arith, remove_keeps test xs n)

-- a set with one number less has the others
pub take_keeps : (old new : List ℕ) (k n : ℕ) → new ≡ remove_key (is_at (nat_cmp k)) old → (n ≡ k → ⊥) → Contains old n → Contains new n
take_keeps old new k n e other c =
    contains_from_has n new (subst (Has n) (sym e) (remove_keeps (is_at (nat_cmp k)) old n (not-true (is_eq (nat_cmp k n)) (unequal k n (λ f. other (sym f)))) (has_from_contains n old c)))
