-- Graphs made of pairs.
use Rattle.std.proofs.Common.{◌≡◌, ℕ, ◌<◌, ◌≤◌, ◌^◌, List, length, sym, ◌∙◌, arith, Option, Some, None, IfSome, IfNone}
use Rattle.ci_graph.specs.Lists.{times, number_at, IsOrder, IsStuck}
use Rattle.ci_graph.specs.JobGraph.{JobGraph, IsJobGraph, HasPairs, predecessors_of, successors_of}
use Rattle.ci_graph.specs.Pairs.{AreWithin, GiveNeighbours, HasCycle, IsAcyclic, has_pair}
use Rattle.ci_graph.proofs.Steps.{Neighbours, AreNeighbours}
use Rattle.ci_graph.proofs.Counts.{at_times, few_below, once_yes, once_few}
use Rattle.ci_graph.proofs.Groups.{within_of}
use Rattle.ci_graph.proofs.Cycles.{are_predecessors, cycle_of, ranked_of, ranked_acyclic}

-- by number and list, so that the number may be given in another form
pub found_cycle : (n : ℕ) (pairs : List (ℕ × ℕ)) (s : Neighbours) (taken : List ℕ) → AreWithin n pairs → AreNeighbours n pairs s → IsStuck n s.predecessors taken → HasCycle pairs
found_cycle n pairs s taken w h stuck = cycle_of n pairs s.predecessors taken (are_predecessors n pairs s w h) stuck

pub found_order : (n : ℕ) (pairs : List (ℕ × ℕ)) (s : Neighbours) (order : List ℕ) → AreWithin n pairs → AreNeighbours n pairs s → IsOrder n s.predecessors order → IsAcyclic pairs
found_order n pairs s order w h o =
    ranked_acyclic n pairs order (λ i j c. (within_of n pairs w i j c).0) (ranked_of n pairs s.predecessors order (are_predecessors n pairs s w h) o)

pub graph_of : (g : JobGraph) (pairs : List (ℕ × ℕ)) → AreWithin (length g.parts) pairs → length g.parts < 2 ^ 64 → AreNeighbours (length g.parts) pairs (record { predecessors = g.predecessors; successors = g.successors })
    → IsOrder (length g.parts) g.predecessors g.order → IsJobGraph g
graph_of g pairs w few h o =
    let n : ℕ = length g.parts in
    let once_each : (i j : ℕ) → j < n → times i (predecessors_of g j) ≤ 1 = λ (i j : ℕ) (l : j < n). rw (h.pred i j l) (once_few (has_pair pairs i j)) in
    let from : (i j : ℕ) → j < n → 0 < times i (predecessors_of g j) → i < n
    = λ (i j : ℕ) (l : j < n) (m : 0 < times i (predecessors_of g j)). (h.within i j (once_yes (has_pair pairs i j) (rw (← h.pred i j l) m))).0 in
    record {
      few = few;
      predecessors_long = h.predecessors_long;
      successors_long = h.successors_long;
      each_once = once_each;
      mirror = λ i j li lj. h.pred j i li ∙ sym (h.succ j i lj);
      pred_inside = λ j k lj lk. from (number_at (predecessors_of g j) k) j lj (at_times (predecessors_of g j) k lk);
      inside = λ j k lj lk. (h.within j (number_at (successors_of g j) k) (once_yes (has_pair pairs j (number_at (successors_of g j) k)) (rw (← h.succ j (number_at (successors_of g j) k) lj) (at_times (successors_of g j) k lk)))).1;
      small = λ j lj. let f : length (predecessors_of g j) ≤ n = few_below n (predecessors_of g j) (λ x m. from x j lj m) (λ i l. once_each i j lj) in omega arith;
      ordered = o;
    }

pub pairs_of : (g : JobGraph) (pairs : List (ℕ × ℕ)) → GiveNeighbours (length g.parts) pairs g.predecessors g.successors → IsOrder (length g.parts) g.predecessors g.order → HasPairs g pairs
pairs_of g pairs h o = record { predecessors = h.predecessors; successors = h.successors; ordered = o }

pub order_same : (m n : ℕ) (ps qs : List (List ℕ)) (order : List ℕ) → m ≡ n → ps ≡ qs → IsOrder m ps order → IsOrder n qs order
order_same m n ps qs order e f h = rw (← e, ← f) h

pub stuck_same : (m n : ℕ) (ps qs : List (List ℕ)) (taken : List ℕ) → m ≡ n → ps ≡ qs → IsStuck m ps taken → IsStuck n qs taken
stuck_same m n ps qs taken e f h = rw (← e, ← f) h

-- the same, by a number and lists in another form
pub neighbours_at : (m n : ℕ) (pairs : List (ℕ × ℕ)) (ps qs ss ts : List (List ℕ)) → m ≡ n → ps ≡ qs → ss ≡ ts → GiveNeighbours n pairs qs ts → GiveNeighbours m pairs ps ss
neighbours_at m n pairs ps qs ss ts l e f h = rw (l, e, f) h

pub within_at : (m n : ℕ) (pairs : List (ℕ × ℕ)) → m ≡ n → AreWithin n pairs → AreWithin m pairs
within_at m n pairs e h = rw e h

pub some_says : {T : Type 0} (P : T → Type 0) (o : Option T) (x : T) → o ≡ Some x → IfSome o P → P x
some_says P o x e h = rw e at h

pub none_says : {T : Type 0} (P : Type 0) (o : Option T) → o ≡ None → IfNone o P → P
none_says P o e h = rw e at h
