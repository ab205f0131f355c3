use Rattle.ci_server.specs.Prelude.{Holds, Leaves}
use Rattle.ci_server.proofs.Prunes.{performs_alike}
use Rattle.ci_server.proofs.events.prune_one.Goals as goal

pub returns-clause-performed : goal.returns-clause-performed
returns-clause-performed g c = λ honest s sound held now seed.
    performs_alike c.args.before c.args.before now _ seed s (Holds g.T.Store.holds) (Leaves g.T.Store.leaves) c.handle.new.store c.handle.result (c.handle.ensures.performed honest s sound held)
