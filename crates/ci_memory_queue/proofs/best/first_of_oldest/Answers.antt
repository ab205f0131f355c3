use Rattle.std.proofs.Common.{sym, subst}
use Rattle.ci_memory_queue.specs.Offers.{IsFirst, IsFirstFree}
use Rattle.ci_server_lookups.proofs.Loading.{gives}
use Rattle.ci_memory_queue.proofs.Ones.{first_of_oldest}
use Rattle.ci_memory_queue.proofs.best.first_of_oldest.Goals as goal

-- it is of the pipeline, or none is
pub returns-in-Some-clause-first : goal.returns-in-Some-clause-first
returns-in-Some-clause-first g c =
    let keys = c.first_pending.new.jobs.keys in
    gives g.T.Store.honest g.T.Store.holds g.T.Store.leaves _ _ _ c.first_pending.result c.in_ok-offer.field-0 _ c.in_ok-offer.was c.first_pending.ensures.first
    (λ k first kept turns.
    subst (IsFirstFree k c.args.asks.now keys c.args.before.now) (sym c.if_of.ensures)
    (first_of_oldest k c.args.asks.now keys c.args.before.now kept c.args.pipeline turns c.in-Some.offer (subst (IsFirst k c.args.asks.now keys c.args.before.now) c.in-Some.is first)))
