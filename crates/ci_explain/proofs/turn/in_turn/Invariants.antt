use Rattle.ci_config.specs.Prelude.{value_view}
use Rattle.ci_explain.proofs.Turns.{Goes}
use Rattle.ci_explain.proofs.turn.in_turn.Given as goal

abbrev pub invariant-loop : goal.invariant-loop
invariant-loop l = Goes (value_view l.fn.tree) l.told.items (value_view l.tree)
