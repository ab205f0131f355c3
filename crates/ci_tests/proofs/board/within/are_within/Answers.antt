use Rattle.std.proofs.Common.{◌≡◌, ◌<◌, ◌≤◌, ℕ, List, length, take, All, arith, subst}
use Rattle.std.proofs.lemmas.List.{take_all}
use Rattle.std.proofs.lemmas.List.Elements.{All-more}
use Rattle.ci_machine.specs.Prelude.{AreWithin}
use Rattle.ci_tests.proofs.board.within.are_within.Goals as goal

both_within : (n : ℕ) (ps : List (ℕ × ℕ)) (k : ℕ) → length ps ≤ k → All (λ p. p.0 < n) (take k ps) → All (λ p. p.1 < n) (take k ps) → AreWithin n ps
both_within n ps k l a b =
    let e : take k ps ≡ ps = take_all k ps l in
    let firsts : All (λ p. p.0 < n) ps = subst (λ (xs : List (ℕ × ℕ)). All (λ p. p.0 < n) xs) e a in
    let seconds : All (λ p. p.1 < n) ps = subst (λ (xs : List (ℕ × ℕ)). All (λ p. p.1 < n) xs) e b in
    λ i d m. (firsts i d m, seconds i d m)

pub returns : goal.returns
returns c = λ t. both_within c.args.count c.args.pairs.now c.loop-k.k (omega arith) c.loop-k.invariant.0 c.loop-k.invariant.1

pub loop-k-preserved : goal.loop-k-preserved
loop-k-preserved c = (
  All-more (λ (p : ℕ × ℕ). p.0 < c.args.count) c.args.pairs.now c.loop-k.k _ (omega arith) c.loop-k.invariant.0 c.if-pair-count.false,
  All-more (λ (p : ℕ × ℕ). p.1 < c.args.count) c.args.pairs.now c.loop-k.k _ (omega arith) c.loop-k.invariant.1 c.if-pair-count-2.false,
)
