-- Steps of the pass.
use Rattle.std.proofs.Common.{◌≡◌, ℕ, ◌+◌, ◌<◌, List, ◌∷◌, length, drop, sym, ap, ◌∙◌, add-one, drop-cons, slice_index}
use Rattle.ci_board.specs.Prelude.{Facts, JobGraph, PassState, stepped, passed}

pub stepped_same : (g0 g1 : JobGraph) (fresh : List Facts) (j : ℕ) (h : PassState) → g1 ≡ record g0 { meter = g1.meter } → stepped g1 fresh j h ≡ stepped g0 fresh j h
stepped_same g0 g1 fresh j h e = ap (λ (x : JobGraph). stepped x fresh j h) e

pub graph_more : (g0 g1 g2 : JobGraph) → g1 ≡ record g0 { meter = g1.meter } → g2 ≡ record g1 { meter = g2.meter } → g2 ≡ record g0 { meter = g2.meter }
graph_more g0 g1 g2 e f = f ∙ ap (λ (x : JobGraph). record x { meter = g2.meter }) e

pub pass_more : (g0 g1 : JobGraph) (fresh : List Facts) (i j : ℕ) (h after end : PassState)
    → g1 ≡ record g0 { meter = g1.meter } → i < length g0.order → j ≡ slice_index g1.order i
    → passed g0 fresh (drop i g0.order) h ≡ end → after ≡ stepped g1 fresh j h
    → passed g0 fresh (drop (i + 1) g0.order) after ≡ end
pass_more g0 g1 fresh i j h after end e l at p s =
    let here : drop i g0.order ≡ slice_index g0.order i ∷ drop (i + 1) g0.order = rw add-one (drop-cons g0.order i 0 l) in
    let same : j ≡ slice_index g0.order i = at ∙ ap (λ (x : JobGraph). slice_index x.order i) e in
    ap (λ (x : PassState). passed g0 fresh (drop (i + 1) g0.order) x) (s ∙ (stepped_same g0 g1 fresh j h e ∙ ap (λ (x : ℕ). stepped g0 fresh x h) same))
    ∙ (sym (ap (λ (x : List ℕ). passed g0 fresh x h) here) ∙ p)
