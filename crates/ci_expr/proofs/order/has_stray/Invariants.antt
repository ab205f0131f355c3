use Rattle.std.proofs.Common.{◌≡◌, drop, map, false}
use Rattle.ci_expr.specs.Prelude.{has_stray, token_view}
use Rattle.ci_expr.proofs.order.has_stray.Given as goal

abbrev pub invariant-loop-token : goal.invariant-loop-token
invariant-loop-token l = has_stray false (map token_view l.tokens) ≡ has_stray l.after (map token_view (drop l.token-index l.tokens))
