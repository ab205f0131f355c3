use Rattle.std.proofs.Common.{refl}
use Rattle.ci_server.specs.Prelude.{TellsNothing}
use Rattle.ci_server.proofs.Reports.{reported_kept}
use Rattle.ci_server.proofs.fail_stop.FailStop.prepare.Goals as goal

pub returns : goal.returns
returns g c =
    reported_kept g.T.Store.honest g.T.Store.holds g.T.Store.leaves TellsNothing c.sound_of_each_reached_state.ensures c.args.self.now _ (λ k told. Unit {0}) c.prepare.result c.report_of-told.result c.if-self.false c.report_of-told.ensures c.is_report_fault-self.ensures
    refl c.prepare.ensures (λ s k of kept told is. tt)
