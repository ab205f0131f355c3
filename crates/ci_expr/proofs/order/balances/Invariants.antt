use Rattle.std.proofs.Common.{◌≡◌, ◌≤◌, drop, map}
use Rattle.ci_expr.specs.Prelude.{balances, token_view}
use Rattle.ci_expr.proofs.order.balances.Given as goal

abbrev pub invariant-loop-token : goal.invariant-loop-token
invariant-loop-token l = record {
  few : l.count ≤ l.token-index;
  same : balances 0 (map token_view l.tokens) ≡ balances l.count (map token_view (drop l.token-index l.tokens));
}
