use Rattle.std.proofs.Common.{subst}
use Rattle.ci_server.specs.Prelude.{Reports, TellsQueue}
use Rattle.ci_server.proofs.server.Server.queue.Goals as goal

pub returns : goal.returns
returns g c = record { told = subst (λ v. Reports g.S.Store v c.queue.new.self TellsQueue c.queue.result) c.self.view_is c.queue.ensures }
