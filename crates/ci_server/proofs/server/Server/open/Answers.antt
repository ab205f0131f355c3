use Rattle.std.proofs.Common.{sym, subst}
use Rattle.ci_server.specs.Prelude.{Opens}
use Rattle.ci_server.proofs.Keeping.{opens}
use Rattle.ci_server.proofs.server.Server.open.Goals as goal

pub returns-in-Ok-clause-opened : goal.returns-in-Ok-clause-opened
returns-in-Ok-clause-opened g c = subst (Opens g.S.Store _) (sym c.over.ensures.open) (opens g.S.Store _ _ c.over.ensures.right _ c.in-Ok.ensures.found c.in-Ok.ensures.opened)
