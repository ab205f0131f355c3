use Rattle.ci_server_lookups.proofs.Loading.{stays, says}
use Rattle.ci_memory_queue.proofs.Ones.{asks_other, offer_ahead}
use Rattle.ci_memory_queue.proofs.heads.offer_ahead.Goals as goal

pub returns-then-not-is_ahead : goal.returns-then-not-is_ahead
returns-then-not-is_ahead g c =
    stays g.T.Store.honest g.T.Store.holds g.T.Store.leaves _ _ _ (λ k held. g.met.T.Store.held_is_left _ k held)
    (λ k there wanted. c.is_ahead.ensures.behind c.if-not-is_ahead.true)

pub returns-then-not-may_ask : goal.returns-then-not-may_ask
returns-then-not-may_ask g c =
    stays g.T.Store.honest g.T.Store.holds g.T.Store.leaves _ _ _ (λ k held. g.met.T.Store.held_is_left _ k held)
    (λ k there. asks_other k c.args.asks.now c.args.job.now c.args.before.now there (c.may_ask.ensures c.if-not-may_ask.true))

pub returns : goal.returns
returns g c =
    says g.T.Store.honest g.T.Store.holds g.T.Store.leaves _ _ _ c.offer_at.result c.offer_at.ensures
    (λ k found is at there. offer_ahead k c.args.asks.now c.args.job.now c.args.before.now found (c.is_ahead.ensures.ahead c.if-not-is_ahead.false) at)
