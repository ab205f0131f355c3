-- One record of a list, found among those of it that are remembered.
use Rattle.std.proofs.Common.{◌≡◌, ◌==◌, ℕ, Bool, List, filter, find, map, Some, nat_cmp, subst, eqb-true}
use Rattle.std.specs.List.Sorted.{IsStrictlySortedBy}
use Rattle.ci_machine.proofs.Keyed.{find_has, has_find, has_filter}
use Rattle.ci_machine_steps.proofs.Sound.{rising_from_ascend}

-- what has a number, of those that pass a test of a list in order, has it of all of them
pub found_among : {A : Type 0} (id : A → ℕ) (test : A → Bool) (n : ℕ) (x : A) (xs some : List A) → IsStrictlySortedBy nat_cmp (map id xs) → some ≡ filter test xs
    → find (λ y. id y == n) some ≡ Some x → find (λ y. id y == n) xs ≡ Some x
found_among id test n x xs some ascend is found =
    let its = has_find (λ y. id y == n) x (filter test xs) (subst (λ (l : List _). find (λ y. id y == n) l ≡ Some x) is found) in
    subst (λ m. find (λ y. id y == m) xs ≡ Some x) (eqb-true (id x) n its.1) (find_has id x 0 xs (rising_from_ascend id xs ascend) (has_filter test x xs its.0).0)
