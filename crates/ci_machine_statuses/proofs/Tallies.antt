-- One attempt more.
use Rattle.std.proofs.Common.{◌≡◌, ℕ, zero, suc, ◌+◌, ◌<◌, ◌≤◌, List, [], ◌∷◌, ◌++◌, length, map, Some, None, replicate, slice_index_or, slice_set, take, nat_cmp, refl, sym, ap}
use Rattle.std.proofs.Common.{◌∙◌, arith}
use Rattle.std.specs.List.Sorted.{IsStrictlySortedBy}
use Rattle.std.proofs.lemmas.List.{map-id, take_more}
use Rattle.ci_machine_steps.specs.Prelude.{Attempt}
use Rattle.ci_machine_statuses.specs.declared.tally.Tally.{Tally}
use Rattle.ci_machine_statuses.specs.Lookups.{tally_of, tally_at, no_tally, place_of}
use Rattle.ci_machine_statuses.proofs.Puts.{cons_same, map_same}
use Rattle.ci_machine_statuses.proofs.Facts.{one_other, its_tally, other_tally}
use Rattle.ci_machine_statuses.proofs.Positions.{numbers_ascend, place_some, place_none}

pub none_yet : (numbers : List ℕ) → map (tally_of []) numbers ≡ replicate (length numbers) (record { count = 0; last = None })
none_yet [] = refl
none_yet (n ∷ ns) = cons_same refl (none_yet ns)

-- one attempt more of one job: none has counted more than one more
pub few_more : (ts : List Tally) (place n : ℕ) (t : Tally) → ((p : ℕ) → (tally_at ts p).count ≤ n) → t.count ≤ n + 1 → (p : ℕ) → (tally_at (slice_set ts place t) p).count ≤ n + 1
few_more [] place n t few c p = let z : 0 ≤ n + 1 = omega arith in z
few_more (x ∷ ts) zero n t few c zero = c
few_more (x ∷ ts) zero n t few c (suc p) = let z = few (suc p) in omega (arith, z)
few_more (x ∷ ts) (suc i) n t few c zero = let z = few zero in omega (arith, z)
few_more (x ∷ ts) (suc i) n t few c (suc p) = few_more ts i n t (λ q. few (suc q)) c p

-- a step of the loop: the next attempt is one of a job of these numbers, or of none
next_taken : (numbers : List ℕ) (xs : List Attempt) (i : ℕ) (a : Attempt) → i < length xs → a ≡ slice_index_or xs i a
    → map (tally_of (take i xs ++ a ∷ [])) numbers ≡ map (tally_of (take (i + 1) xs)) numbers
next_taken numbers xs i a l at = ap (λ (ys : List Attempt). map (tally_of ys) numbers) (sym (take_more xs i a l ∙ ap (λ (b : Attempt). take i xs ++ b ∷ []) (sym at)))

pub count_step : (numbers : List ℕ) (xs : List Attempt) (i : ℕ) (a : Attempt) (place : ℕ) (ts us : List Tally) → i < length xs → a ≡ slice_index_or xs i a → IsStrictlySortedBy nat_cmp numbers
    → place_of numbers a.job ≡ Some place → ts ≡ map (tally_of (take i xs)) numbers → us ≡ slice_set ts place (record { count = (tally_at ts place).count + 1; last = Some a.state })
    → us ≡ map (tally_of (take (i + 1) xs)) numbers
count_step numbers xs i a place ts us l at up found before set =
    let r = numbers_ascend numbers up in
    let w = place_some numbers a.job place r found in
    set
    ∙ (ap (λ (l : List Tally). slice_set l place (record { count = (tally_at l place).count + 1; last = Some a.state })) before
    ∙ (sym (one_other (λ n. n) no_tally 0 numbers (tally_of (take i xs ++ a ∷ [])) (tally_of (take i xs)) (λ t. record { count = t.count + 1; last = Some a.state })
    a.job place r w.0 (ap (λ (l : List ℕ). slice_index_or l place 0) (map-id numbers) ∙ w.1) (λ n h d. other_tally (take i xs) a n d) (λ n h q. its_tally (take i xs) a n q))
    ∙ next_taken numbers xs i a l at))

pub skip_step : (numbers : List ℕ) (xs : List Attempt) (i : ℕ) (a : Attempt) (ts : List Tally) → i < length xs → a ≡ slice_index_or xs i a
    → place_of numbers a.job ≡ None → ts ≡ map (tally_of (take i xs)) numbers → ts ≡ map (tally_of (take (i + 1) xs)) numbers
skip_step numbers xs i a ts l at found before =
    before
    ∙ (sym (map_same (tally_of (take i xs ++ a ∷ [])) (tally_of (take i xs)) numbers (λ n h. other_tally (take i xs) a n (place_none numbers a.job found n h)))
    ∙ next_taken numbers xs i a l at)
