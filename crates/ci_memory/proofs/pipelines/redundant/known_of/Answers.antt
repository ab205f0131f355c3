use Rattle.ci_server_lookups.proofs.Loading.{gives}
use Rattle.ci_memory.proofs.Covers.{all_suspects}
use Rattle.ci_memory.proofs.pipelines.redundant.known_of.Goals as goal

-- all are suspects
pub returns : goal.returns
returns g c =
    gives g.T.Store.honest g.T.Store.holds g.T.Store.leaves _ _ _ c.unfinished_of.result c.in_ok-suspects.suspects _ c.in_ok-suspects.was c.unfinished_of.ensures
    (λ k its kept right. all_suspects _ k c.new-alone.ensures.items (its kept))
