use Rattle.std.proofs.Common.{sym, subst}
use Rattle.ci_server_lookups.proofs.Loading.{gives}
use Rattle.ci_memory.specs.Alone.{IsRight}
use Rattle.ci_memory.proofs.pipelines.redundant.unfinished.Goals as goal

-- they are those that are remembered then
pub returns-clause-found : goal.returns-clause-found
returns-clause-found g c =
    gives g.T.Store.honest g.T.Store.holds g.T.Store.leaves _ _ _ c.known_of.result c.in_ok-known.known _ c.in_ok-known.was c.known_of.ensures
    (λ k knows right kept. c.in_ok-numbers.ensures k (knows kept (subst (λ o. IsRight o k) (sym c.take.ensures.value) right)))
