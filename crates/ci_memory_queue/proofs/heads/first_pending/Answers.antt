use Rattle.std.proofs.Common.{Ok, refl, sym, ◌∙◌}
use Rattle.ci_server_lookups.proofs.Loading.{gives, so}
use Rattle.ci_memory_queue.proofs.Ones.{none_ahead, first_is}
use Rattle.ci_memory_queue.proofs.heads.first_pending.Goals as goal

-- the first isn't ahead
pub returns-then-not-is_ahead-clause-first : goal.returns-then-not-is_ahead-clause-first
returns-then-not-is_ahead-clause-first g c =
    gives g.T.Store.honest g.T.Store.holds g.T.Store.leaves _ _ _ (Ok tt) tt _ refl c.loop-first.invariant
    (λ k kept. none_ahead k c.args.asks.now c.loop-first.jobs.keys c.in-Some.first c.args.before.now c.in-Some.ensures.least (c.is_ahead.ensures.behind c.if-not-is_ahead.true))

-- the first is it
pub returns-then-is_some-clause-first : goal.returns-then-is_some-clause-first
returns-then-is_some-clause-first g c =
    so g.T.Store.honest g.T.Store.holds g.T.Store.leaves _ _ _ _ (Ok tt) tt c.offer_at.result c.in_ok-found.found _ refl c.in_ok-found.was c.loop-first.invariant c.offer_at.ensures
    (λ k kept at.
    first_is k c.args.asks.now c.loop-first.jobs.keys c.in-Some.first c.args.before.now c.in-Some.ensures.least c.in_ok-found.found (sym c.if-is_some.true ∙ c.is_some.ensures) (c.is_ahead.ensures.ahead c.if-not-is_ahead.false) at)
