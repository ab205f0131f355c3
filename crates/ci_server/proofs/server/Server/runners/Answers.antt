use Rattle.std.proofs.Common.{subst}
use Rattle.ci_server.specs.Prelude.{Reports, TellsRunners}
use Rattle.ci_server.proofs.server.Server.runners.Goals as goal

pub returns : goal.returns
returns g c = record { told = subst (λ v. Reports g.S.Store v c.runners.new.self TellsRunners c.runners.result) c.self.view_is c.runners.ensures }
