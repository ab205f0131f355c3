-- In a list that never falls nothing is below behind the first number that isn't.
use Rattle.std.proofs.Common.{◌≡◌, ◌<◌, ◌≤◌, ◌+◌, ℕ, zero, suc, Bool, true, false, List, [], ◌∷◌, drop, length, get_or, nat_lt, refl, arith}
use Rattle.std.proofs.lemmas.Bool.{cond_both, ltb-true, ltb-false, false≢true}
use Rattle.ci_graph_layout.specs.Prelude.{below, never_falls_from}

head : (least n : ℕ) (ns : List ℕ) → never_falls_from least (n ∷ ns) ≡ true → least ≤ n
head least n ns h =
    cond_both (nat_lt n least) false (never_falls_from n ns) (λ (x : Bool). x ≡ true → least ≤ n)
    (λ e f. absurd (false≢true f)) (λ e f. ltb-false n least e) h

rest : (least n : ℕ) (ns : List ℕ) → never_falls_from least (n ∷ ns) ≡ true → never_falls_from n ns ≡ true
rest least n ns h =
    cond_both (nat_lt n least) false (never_falls_from n ns) (λ (x : Bool). x ≡ true → never_falls_from n ns ≡ true)
    (λ e f. absurd (false≢true f)) (λ e f. f) h

none_below : (own least k : ℕ) (ns : List ℕ) → own ≤ least → never_falls_from least ns ≡ true → below own k ns ≡ []
none_below own least k [] l h = refl
none_below own least k (n ∷ ns) l h =
    let m : least ≤ n = head least n ns h in
    cond_both (nat_lt n own) (k ∷ below own (k + 1) ns) (below own (k + 1) ns) (λ xs. xs ≡ [])
    (λ e. let o : n < own = ltb-true n own e in absurd (omega arith))
    (λ e. none_below own n (k + 1) ns (omega arith) (rest least n ns h))

pub none_from : (own least k i : ℕ) (ns : List ℕ) → never_falls_from least ns ≡ true → i < length ns → own ≤ get_or ns i 0 → below own k (drop i ns) ≡ []
none_from own least k i [] h l m = absurd (omega arith)
none_from own least k zero (n ∷ ns) h l m =
    cond_both (nat_lt n own) (k ∷ below own (k + 1) ns) (below own (k + 1) ns) (λ xs. xs ≡ [])
    (λ f. let p : n < own = ltb-true n own f in absurd (omega arith))
    (λ f. none_below own n (k + 1) ns m (rest least n ns h))
none_from own least k (suc i) (n ∷ ns) h l m = none_from own n k i ns (rest least n ns h) (omega arith) m
