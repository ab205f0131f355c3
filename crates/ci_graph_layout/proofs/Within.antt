-- The pairs of a lineup are of its positions.
use Rattle.std.proofs.Common.{◌≡◌, ◌<◌, ◌≤◌, ◌+◌, ℕ, suc, List, [], ◌∷◌, Option, Some, None, map, length, nat_lt, All, IfSome, arith, rules}
use Rattle.std.proofs.lemmas.Bool.{cond_both}
use Rattle.std.proofs.lemmas.List.{length-map}
use Rattle.std.proofs.lemmas.List.Elements.{All-nil, All-cons, All-append, All-map, All-weaker}
use Rattle.std.specs.Str.{bytes_eq}
use Rattle.ci_graph_layout.specs.Prelude.{Text, Need, AreWithin, IncludedJob, put, rank, ranks, below, place_from, place_of, needed, by_needs, predecessors, pairs_from, pairs}

abbrev AreBelow : ℕ → List ℕ → Type 0
AreBelow n xs = All (λ x. x < n) xs

some_more : (o : Option ℕ) (k n : ℕ) → IfSome o (λ p. p < k + 1 + n) → IfSome o (λ p. p < k + suc n)
some_more None k n h = tt
some_more (Some p) k n h = omega arith

some_from : (o : Option ℕ) (n : ℕ) → IfSome o (λ p. p < 0 + n) → IfSome o (λ p. p < n)
some_from None n h = tt
some_from (Some p) n h = omega arith

place_within : (k : ℕ) (is : List IncludedJob) (name : Text) → IfSome (place_from k is name) (λ p. p < k + length is)
place_within k [] name = tt
place_within k (i ∷ is) name =
    cond_both (bytes_eq name i.job.name) (Some k) (place_from (k + 1) is name) (λ o. IfSome o (λ p. p < k + suc (length is)))
    (λ _. omega arith)
    (λ _. some_more (place_from (k + 1) is name) k (length is) (place_within (k + 1) is name))

put_within : (o : Option ℕ) (xs : List ℕ) (n : ℕ) → IfSome o (λ p. p < n) → AreBelow n xs → AreBelow n (put o xs)
put_within None xs n h all = all
put_within (Some p) xs n h all = All-cons (λ x. x < n) p xs h all

needed_within : (is : List IncludedJob) (ns : List Need) → AreBelow (length is) (needed is ns)
needed_within is [] = All-nil (λ x. x < length is)
needed_within is (n ∷ ns) = put_within (place_of is n.job) (needed is ns) (length is) (some_from (place_of is n.job) (length is) (place_within 0 is n.job)) (needed_within is ns)

below_within : (own k : ℕ) (rs : List ℕ) → AreBelow (k + length rs) (below own k rs)
below_within own k [] = All-nil (λ x. x < k + 0)
below_within own k (r ∷ rs) =
    let more : AreBelow (k + suc (length rs)) (below own (k + 1) rs) = All-weaker (λ x. x < k + 1 + length rs) (λ x. x < k + suc (length rs)) (λ x l. omega arith) (below own (k + 1) rs) (below_within own (k + 1) rs) in
    cond_both (nat_lt r own) (k ∷ below own (k + 1) rs) (below own (k + 1) rs) (λ xs. AreBelow (k + suc (length rs)) xs)
    (λ _. All-cons (λ x. x < k + suc (length rs)) k (below own (k + 1) rs) (omega arith) more)
    (λ _. more)

by_needs_within : (is : List IncludedJob) (earlier : List ℕ) (ns : Option (List Need)) → AreBelow (length is) earlier → AreBelow (length is) (by_needs is earlier ns)
by_needs_within is earlier None h = h
by_needs_within is earlier (Some ns) h = needed_within is ns

ranks_within : (stages : List Text) (is : List IncludedJob) (own : ℕ) → AreBelow (length is) (below own 0 (ranks stages is))
ranks_within stages is own =
    let long : length (ranks stages is) ≡ length is = search (length-map, rules) in
    All-weaker (λ x. x < 0 + length (ranks stages is)) (λ x. x < length is) (λ x l. omega arith) (below own 0 (ranks stages is)) (below_within own 0 (ranks stages is))

predecessors_within : (stages : List Text) (is : List IncludedJob) (j : IncludedJob) → AreBelow (length is) (predecessors stages is j)
predecessors_within stages is j =
    by_needs_within is (below (rank stages j.job.stage) 0 (ranks stages is)) j.job.needs
    (ranks_within stages is (rank stages j.job.stage))

from_within : (stages : List Text) (is : List IncludedJob) (k : ℕ) (js : List IncludedJob) → k + length js ≤ length is → AreWithin (length is) (pairs_from stages is k js)
from_within stages is k [] l = All-nil (λ (p : ℕ × ℕ). (p.0 < length is) × (p.1 < length is))
from_within stages is k (j ∷ js) l =
    All-append (λ (p : ℕ × ℕ). (p.0 < length is) × (p.1 < length is)) (map (λ i. (i, k)) (predecessors stages is j)) (pairs_from stages is (k + 1) js)
    (All-map (λ (p : ℕ × ℕ). (p.0 < length is) × (p.1 < length is)) (λ (i : ℕ). (i, k)) (predecessors stages is j)
    (All-weaker (λ x. x < length is) (λ x. (x < length is) × (k < length is)) (λ x m. (m, omega arith)) (predecessors stages is j) (predecessors_within stages is j)))
    (from_within stages is (k + 1) js (omega arith))

pub pairs_within : (stages : List Text) (is : List IncludedJob) → AreWithin (length is) (pairs stages is)
pairs_within stages is = from_within stages is 0 is (omega arith)
