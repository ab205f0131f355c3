use Rattle.std.proofs.Common.{◌≡◌, ℕ, List, drop, map}
use Rattle.std.specs.HashMap as hash
use Rattle.std.specs.Str.{bytes_eq}
use Rattle.ci_graph_layout.specs.Prelude.{or_else, place_from, included_view}
use Rattle.ci_graph_layout.proofs.places.places.Given as goal

abbrev pub invariant-loop-i : goal.invariant-loop-i
invariant-loop-i l = (q : List ℕ) → or_else (hash.get_by (λ k. bytes_eq q k.now) l.found) (place_from l.i (map included_view (drop l.i l.jobs)) q) ≡ place_from 0 (map included_view l.jobs) q
