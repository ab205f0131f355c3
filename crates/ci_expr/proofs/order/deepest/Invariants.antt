use Rattle.std.proofs.Common.{◌≡◌, ◌≤◌, drop, map, max}
use Rattle.ci_expr.specs.Prelude.{deepest, token_view}
use Rattle.ci_expr.proofs.order.deepest.Given as goal

abbrev pub invariant-loop-token : goal.invariant-loop-token
invariant-loop-token l = record {
  few : l.count ≤ l.token-index;
  same : deepest 0 (map token_view l.tokens) ≡ max l.most (deepest l.count (map token_view (drop l.token-index l.tokens)));
}
