use Rattle.std.proofs.Common.{subst}
use Rattle.ci_server.specs.Prelude.{Reports, TellsPipelineAt}
use Rattle.ci_server.proofs.server.Server.pipeline.Goals as goal

pub returns : goal.returns
returns g c = record { told = subst (λ v. Reports g.S.Store v c.pipeline.new.self (TellsPipelineAt c.args.id) c.pipeline.result) c.self.view_is c.pipeline.ensures }
