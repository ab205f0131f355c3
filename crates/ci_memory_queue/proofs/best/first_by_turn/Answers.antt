use Rattle.std.proofs.Common.{subst}
use Rattle.ci_memory_queue.specs.Turns.{IsTurnOf}
use Rattle.ci_server_lookups.proofs.Loading.{stays, says}
use Rattle.ci_memory_queue.proofs.Ones.{first_of_all, first_of_none, first_of_newest}
use Rattle.ci_memory_queue.proofs.best.first_by_turn.Goals as goal

-- the first of all
pub returns-in-Anyone-clause-first : goal.returns-in-Anyone-clause-first
returns-in-Anyone-clause-first g c =
    says g.T.Store.honest g.T.Store.holds g.T.Store.leaves _ _ _ c.first_pending.result c.first_pending.ensures.first
    (λ k found is first kept turns. first_of_all k c.args.asks.now c.first_pending.new.jobs.keys c.args.before.now (subst (IsTurnOf k c.args.asks.now) c.in-Anyone.is turns) found first)

-- none
pub returns-in-Nobody-clause-first : goal.returns-in-Nobody-clause-first
returns-in-Nobody-clause-first g c =
    stays g.T.Store.honest g.T.Store.holds g.T.Store.leaves _ _ _ (λ k held. g.met.T.Store.held_is_left _ k held)
    (λ k kept turns. first_of_none k c.args.asks.now c.args.jobs.now.keys c.args.before.now (subst (IsTurnOf k c.args.asks.now) c.in-Nobody.is turns))

-- the first of all, if it is of the pipeline
pub returns-in-Oldest-clause-first : goal.returns-in-Oldest-clause-first
returns-in-Oldest-clause-first g c =
    says g.T.Store.honest g.T.Store.holds g.T.Store.leaves _ _ _ c.first_of_oldest.result c.first_of_oldest.ensures.first
    (λ k found is first kept turns. first kept (subst (IsTurnOf k c.args.asks.now) c.in-Oldest.is turns))

-- the first of the pipeline
pub returns-in-Newest-clause-first : goal.returns-in-Newest-clause-first
returns-in-Newest-clause-first g c =
    says g.T.Store.honest g.T.Store.holds g.T.Store.leaves _ _ _ c.first_of_pipeline.result c.first_of_pipeline.ensures
    (λ k found is first kept turns. first_of_newest k c.args.asks.now c.args.jobs.now.keys c.args.before.now c.in-Newest.pipeline (subst (IsTurnOf k c.args.asks.now) c.in-Newest.is turns) found (first kept))
