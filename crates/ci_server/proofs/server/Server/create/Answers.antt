use Rattle.std.proofs.Common.{sym, subst, arith}
use Rattle.ci_server.specs.Prelude.{Creates}
use Rattle.ci_server.proofs.Keeping.{creates}
use Rattle.ci_server.proofs.server.Server.create.Goals as goal

pub returns-in-Ok-clause-made : goal.returns-in-Ok-clause-made
returns-in-Ok-clause-made g c =
    subst (Creates g.S.Store _) (sym c.over.ensures.open) (creates g.S.Store _ _ c.over.ensures.right (λ honest. omega (arith, c.in-Ok.ensures.clean, honest)) c.in-Ok.ensures.blank c.in-Ok.ensures.made)
