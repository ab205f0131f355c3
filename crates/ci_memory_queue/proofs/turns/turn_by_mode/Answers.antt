use Rattle.std.proofs.Common.{sym, subst, ◌∙◌}
use Rattle.ci_server_lookups.proofs.Loading.{gives, so}
use Rattle.ci_memory_queue.specs.Turns.{GoesFirst}
use Rattle.ci_memory_queue.proofs.Waits.{unordered, ordered}
use Rattle.ci_memory_queue.proofs.turns.turn_by_mode.Goals as goal

-- the group has no mode
pub returns-in-None : goal.returns-in-None
returns-in-None g c =
    gives g.T.Store.honest g.T.Store.holds g.T.Store.leaves _ _ _ c.mode.result c.in_ok-mode.field-0 _ c.in_ok-mode.was c.mode.ensures
    (λ k at kept. unordered k c.args.project c.args.group.now (sym c.in-None.is ∙ at))

-- by the order of its mode
pub returns-in_ok-first-in-Some : goal.returns-in_ok-first-in-Some
returns-in_ok-first-in-Some g c =
    so g.T.Store.honest g.T.Store.holds g.T.Store.leaves _ _ _ _ c.mode.result c.in_ok-mode.field-0 c.turn.result c.in_ok-first-in-Some.first _ c.in_ok-mode.was c.in_ok-first-in-Some.was c.mode.ensures c.turn.ensures
    (λ k at its kept.
    subst (GoesFirst k c.args.project c.args.group.now) (sym c.turn_by.ensures) (ordered k c.args.project c.args.group.now c.in-Some.mode c.in_ok-first-in-Some.first (sym c.in-Some.is ∙ at) (its kept)))
