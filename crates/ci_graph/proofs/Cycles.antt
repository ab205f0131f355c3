-- Walks that return, and orders.
use Rattle.std.proofs.Common.{◌≡◌, ◌⊎◌, ◌↔◌, ℕ, zero, suc, ◌+◌, ◌<◌, ◌≤◌, ◌==◌, List, [], ◌∷◌, length, take, map, refl, sym, ap, ◌∙◌, arith, eqb-true, ⊎_elim, inl, inr, Contains}
use Rattle.std.proofs.lemmas.Bool.{cond_both, cases_lt}
use Rattle.ci_graph.specs.Lists.{list_at, times, number_at, IsOrder, IsStuck}
use Rattle.ci_graph.specs.Pairs.{AreWithin, IsWalk, HasWalk, HasCycle, IsAcyclic, IsRanked, has_pair}
use Rattle.ci_graph.proofs.Steps.{Neighbours, AreNeighbours, Progress, sources, released, IsReady}
use Rattle.ci_graph.proofs.Counts.{times_cases, times_at, times_or_none, times_take, times_after, few_below, once_yes}
use Rattle.ci_graph.proofs.Groups.{has_yes, contains_has, within_of, neighbours_by, neighbours_are}
use Rattle.ci_graph.proofs.Queues.{ready_first, ready_more, ready_end, ready_stuck}

-- the predecessors that a list of pairs gives
pub record ArePredecessors (n : ℕ) (pairs : List (ℕ × ℕ)) (predecessors : List (List ℕ)) : Type 0 where
  pub yes : (i j : ℕ) → Contains pairs (i, j) → 0 < times i (list_at predecessors j)
  pub alone : (i j : ℕ) → j < n → 0 < times i (list_at predecessors j) → Contains pairs (i, j)
  pub within : (i j : ℕ) → Contains pairs (i, j) → (i < n) × (j < n)

not_among : (i x : ℕ) (trail : List ℕ) → times i trail ≡ 0 → times x trail ≤ 1 → times x (i ∷ trail) ≤ 1
not_among i x trail z f =
    cond_both (i == x) (suc (times x trail)) (times x trail) (λ (m : ℕ). m ≤ 1)
    (λ e. let q : i ≡ x = eqb-true i x e in let w : times x trail ≡ 0 = ap (λ (k : ℕ). times k trail) (sym q) ∙ z in omega arith)
    (λ e. f)

-- going back from i, through positions from each of which the trail was come
chase : (n : ℕ) (pairs : List (ℕ × ℕ)) (predecessors : List (List ℕ)) (taken : List ℕ) → ArePredecessors n pairs predecessors → IsStuck n predecessors taken
    → (f i : ℕ) (trail : List ℕ) → n < f + length trail → i < n → times i taken ≡ 0 → times i trail ≡ 0
    → ((x : ℕ) → 0 < times x trail → x < n) → ((x : ℕ) → x < n → times x trail ≤ 1)
    → ((x : ℕ) → 0 < times x trail → HasWalk pairs i x) → HasCycle pairs
chase n pairs predecessors taken a s zero i trail l li t z b d w = absurd (let h : length trail ≤ n = few_below n trail b d in omega arith)
chase n pairs predecessors taken a s (suc f) i trail l li t z b d w =
    let r : (p : ℕ) × (0 < times p (list_at predecessors i)) × (times p taken ≡ 0) = s.each i li t in
    let p : ℕ = r.0 in
    let c : Contains pairs (p, i) = a.alone p i li r.1 in
    ⊎_elim
    (λ (new : times p (i ∷ trail) ≡ 0).
    chase n pairs predecessors taken a s f p (i ∷ trail) (omega arith) (a.within p i c).0 r.2 new
    (λ x m. ⊎_elim (λ (q : i ≡ x). omega arith) (λ (y : 0 < times x trail). b x y) (times_cases x i trail m))
    (λ x lx. not_among i x trail z (d x lx))
    (λ x m. ⊎_elim
    (λ (q : i ≡ x). ([], elim_to pairs p i x q c))
    (λ (y : 0 < times x trail). let v : HasWalk pairs i x = w x y in (i ∷ v.0, (c, v.1)))
    (times_cases x i trail m)))
    (λ (old : 0 < times p (i ∷ trail)). ⊎_elim
    (λ (q : i ≡ p). (i, ([], elim_from pairs p i (sym q) c)))
    (λ (y : 0 < times p trail). let v : HasWalk pairs i p = w p y in (p, (i ∷ v.0, (c, v.1))))
    (times_cases p i trail old))
    (times_or_none p (i ∷ trail))
  where
    elim_to : (pairs : List (ℕ × ℕ)) (p i x : ℕ) → i ≡ x → Contains pairs (p, i) → Contains pairs (p, x)
    elim_to pairs p i x q c = rw (← q) c

    elim_from : (pairs : List (ℕ × ℕ)) (p i : ℕ) → p ≡ i → Contains pairs (p, i) → Contains pairs (i, i)
    elim_from pairs p i q c = rw q at c

pub cycle_of : (n : ℕ) (pairs : List (ℕ × ℕ)) (predecessors : List (List ℕ)) (taken : List ℕ) → ArePredecessors n pairs predecessors → IsStuck n predecessors taken → HasCycle pairs
cycle_of n pairs predecessors taken a s =
    let r : (i : ℕ) × (i < n) × (times i taken ≡ 0) = s.some in
    chase n pairs predecessors taken a s (suc n) r.0 [] (omega arith) r.1 r.2 refl (λ x l. absurd (omega arith)) (λ x l. omega arith) (λ x l. absurd (omega arith))

-- what stands among the first k stands at a place below k
placed : (k : ℕ) (order : List ℕ) (m x : ℕ) → x < length (take k order) → number_at (take k order) x ≡ m → (z : ℕ) × (z < k) × (z < length order) × (number_at order z ≡ m)
placed zero order m x l e = absurd (omega arith)
placed (suc k) [] m x l e = absurd (omega arith)
placed (suc k) (y ∷ ys) m zero l e = (0, omega arith, omega arith, e)
placed (suc k) (y ∷ ys) m (suc x) l e =
    let r : (z : ℕ) × (z < k) × (z < length ys) × (number_at ys z ≡ m) = placed k ys m x (omega arith) e in
    let a : r.0 < k = r.1 in let b : r.0 < length ys = r.2 in
    (suc r.0, omega arith, omega arith, r.3)

-- where a list ranks the pairs, a walk to the k-th begins at one before it
walk_before : (n : ℕ) (pairs : List (ℕ × ℕ)) (order : List ℕ) → IsRanked n pairs order → (i : ℕ) (ks : List ℕ) (j k : ℕ) → k < length order → number_at order k ≡ j
    → IsWalk pairs i ks j → 0 < times i (take k order)
walk_before n pairs order r i [] j k l e w = r.before k i l (rw e w)
walk_before n pairs order r i (m ∷ ks) j k l e w =
    let a : 0 < times m (take k order) = walk_before n pairs order r m ks j k l e w.1 in
    let b : (x : ℕ) × (x < length (take k order)) × (number_at (take k order) x ≡ m) = times_at m (take k order) a in
    let p : (x : ℕ) × (x < k) × (x < length order) × (number_at order x ≡ m) = placed k order m b.0 b.1 b.2 in
    let x_low : p.0 < k = p.1 in
    let c : 0 < times i (take p.0 order) = r.before p.0 i p.2 (rw p.3 w.0) in
    let g : times i (take p.0 order) ≤ times i (take k order) = times_take i p.0 k order (omega arith) in
    omega arith

walk_within : (n : ℕ) (pairs : List (ℕ × ℕ)) → ((i j : ℕ) → Contains pairs (i, j) → i < n) → (i : ℕ) (ks : List ℕ) (j : ℕ) → IsWalk pairs i ks j → i < n
walk_within n pairs b i [] j w = b i j w
walk_within n pairs b i (m ∷ ks) j w = b i m w.0

pub ranked_acyclic : (n : ℕ) (pairs : List (ℕ × ℕ)) (order : List ℕ) → ((i j : ℕ) → Contains pairs (i, j) → i < n) → IsRanked n pairs order → IsAcyclic pairs
ranked_acyclic n pairs order b r c =
    let i : ℕ = c.0 in
    let li : i < n = walk_within n pairs b i c.1.0 i c.1.1 in
    let one : times i order ≡ 1 = r.each_once i li in
    let p : (k : ℕ) × (k < length order) × (number_at order k ≡ i) = times_at i order (omega arith) in
    let w : 0 < times i (take p.0 order) = walk_before n pairs order r i c.1.0 i p.0 p.1 p.2 c.1.1 in
    let t : times (number_at order p.0) (take p.0 order) + 1 ≤ times (number_at order p.0) order = times_after p.0 order p.1 in
    let u : times i (take p.0 order) + 1 ≤ times i order = rw (ap (λ (x : ℕ). times x (take p.0 order) + 1 ≤ times x order) (sym p.2)) t in
    omega arith

pub ranked_of : (n : ℕ) (pairs : List (ℕ × ℕ)) (predecessors : List (List ℕ)) (order : List ℕ) → ArePredecessors n pairs predecessors → IsOrder n predecessors order → IsRanked n pairs order
ranked_of n pairs predecessors order a o = record {
  each_once = o.each_once;
  before = λ k i l c. o.before k i l (a.yes i (number_at order k) c);
}

pub are_predecessors : (n : ℕ) (pairs : List (ℕ × ℕ)) (s : Neighbours) → AreWithin n pairs → AreNeighbours n pairs s → ArePredecessors n pairs s.predecessors
are_predecessors n pairs s w h = record {
  yes = λ i j c. let b : (i < n) × (j < n) = within_of n pairs w i j c in
      rw (h.pred i j b.1) (rw (contains_has pairs i j c) (let o : 0 < 1 = omega arith in o));
  alone = λ i j l m. has_yes pairs i j (once_yes (has_pair pairs i j) (rw (← h.pred i j l) m));
  within = within_of n pairs w;
}

-- the queue, run to its end
finish : (n : ℕ) (pairs : List (ℕ × ℕ)) (predecessors successors : List (List ℕ)) → AreNeighbours n pairs (record { predecessors = predecessors; successors = successors }) → (f k : ℕ) (t : Progress) → f + k ≡ n → IsReady n predecessors k t
    → ((order : List ℕ) × IsOrder n predecessors order) ⊎ ((taken : List ℕ) × IsStuck n predecessors taken)
finish n pairs predecessors successors a zero k t e h =
    inl (t.queue, ready_end n predecessors k t (omega arith) h)
finish n pairs predecessors successors a (suc f) k t e h = ⊎_elim
    (λ (l : k < length t.queue). finish n pairs predecessors successors a f (k + 1) (released (list_at successors (number_at t.queue k)) t) (omega arith)
    (ready_more n pairs predecessors successors k t (released (list_at successors (number_at t.queue k)) t) a h l refl))
    (λ (l : length t.queue ≤ k). inr (t.queue, ready_stuck n predecessors k t h (omega arith) l))
    (cases_lt k (length t.queue))

pub acyclic_ranked : (n : ℕ) (pairs : List (ℕ × ℕ)) → AreWithin n pairs → IsAcyclic pairs → (order : List ℕ) × IsRanked n pairs order
acyclic_ranked n pairs w acyclic =
    let s : Neighbours = neighbours_by n pairs in
    let h : AreNeighbours n pairs s = neighbours_are n pairs w in
    let a : ArePredecessors n pairs s.predecessors = are_predecessors n pairs s w h in
    let left : List ℕ = map length s.predecessors in
    ⊎_elim
    (λ (o : (order : List ℕ) × IsOrder n s.predecessors order). (o.0, ranked_of n pairs s.predecessors o.0 a o.1))
    (λ (o : (taken : List ℕ) × IsStuck n s.predecessors taken). absurd (acyclic (cycle_of n pairs s.predecessors o.0 a o.1)))
    (finish n pairs s.predecessors s.successors h n 0 (record { queue = sources 0 left; left = left }) (omega arith)
    (ready_first n s.predecessors (record { queue = sources 0 left; left = left }) h.predecessors_long refl refl))

pub acyclic_both : (n : ℕ) (pairs : List (ℕ × ℕ)) → AreWithin n pairs → IsAcyclic pairs ↔ ((order : List ℕ) × IsRanked n pairs order)
acyclic_both n pairs w = (acyclic_ranked n pairs w, λ o. ranked_acyclic n pairs o.0 (λ i j c. (within_of n pairs w i j c).0) o.1)
