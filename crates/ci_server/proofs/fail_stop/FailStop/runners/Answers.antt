use Rattle.std.proofs.Common.{◌≡◌, ◌∙◌, ap, refl}
use Rattle.ci_machine_steps.specs.Prelude.{runner_rows}
use Rattle.ci_server.specs.Prelude.{TellsRunners}
use Rattle.ci_server.proofs.Reports.{reported}
use Rattle.ci_server.proofs.fail_stop.FailStop.runners.Goals as goal

pub returns : goal.returns
returns g c =
    reported g.T.Store.honest g.T.Store.holds g.T.Store.leaves TellsRunners c.sound_of_each_reached_state.ensures c.args.self.now _ (λ k told. told.items ≡ runner_rows k.state) c.runner_rows.result c.report_of-told.result c.if-self.false c.report_of-told.ensures c.is_report_fault-self.ensures
    refl c.runner_rows.ensures (λ s k of kept told is. is ∙ ap runner_rows of.state)
