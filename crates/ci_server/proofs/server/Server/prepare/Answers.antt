use Rattle.std.proofs.Common.{subst}
use Rattle.ci_server.specs.Prelude.{Reports, TellsNothing}
use Rattle.ci_server.proofs.server.Server.prepare.Goals as goal

pub returns : goal.returns
returns g c = record { told = subst (λ v. Reports g.S.Store v c.prepare.new.self TellsNothing c.prepare.result) c.self.view_is c.prepare.ensures }
