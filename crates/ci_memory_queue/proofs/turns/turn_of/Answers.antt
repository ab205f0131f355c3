use Rattle.std.proofs.Common.{sym, ◌∙◌}
use Rattle.ci_server_lookups.proofs.Loading.{gives, goes_on}
use Rattle.ci_memory_queue.proofs.Waits.{held_turn, turn_is}
use Rattle.ci_memory_queue.proofs.turns.turn_of.Goals as goal

-- the group is held
pub returns-then-is_some : goal.returns-then-is_some
returns-then-is_some g c =
    gives g.T.Store.honest g.T.Store.holds g.T.Store.leaves _ _ _ c.holder.result c.in_ok-holder.field-0 _ c.in_ok-holder.was c.holder.ensures
    (λ k at kept. held_turn k kept c.args.asks.now c.in-Some.group c.in-Some.is c.in_ok-holder.field-0 at (sym c.if-is_some.true ∙ c.is_some.ensures))

-- it isn't
pub returns : goal.returns
returns g c =
    goes_on g.T.Store.honest g.T.Store.holds g.T.Store.leaves _ _ _ _ c.holder.result c.in_ok-holder.field-0 c.turn_by_mode.result c.in_ok-holder.was c.holder.ensures c.turn_by_mode.ensures
    (λ k its_turn is at first kept.
    turn_is k kept c.args.asks.now c.in-Some.group c.in-Some.is c.in_ok-holder.field-0 at (sym c.if-is_some.false ∙ c.is_some.ensures) its_turn (first kept))
