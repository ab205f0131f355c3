use Rattle.std.proofs.Common.{◌≡◌, ◌++◌, drop, map}
use Rattle.ci_graph_layout.proofs.pairs.put_pairs.Given as goal

abbrev pub invariant-loop-place : goal.invariant-loop-place
invariant-loop-place l = l.pairs.items ++ map (λ i. (i, l.fn.job)) (drop l.place-index l.places) ≡ l.fn.pairs.items ++ map (λ i. (i, l.fn.job)) l.places
