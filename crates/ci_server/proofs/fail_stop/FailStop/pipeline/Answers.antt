use Rattle.std.proofs.Common.{subst, refl}
use Rattle.ci_machine_steps.specs.Prelude.{pipeline_at}
use Rattle.ci_server_events.specs.Told.{TellsPipeline}
use Rattle.ci_server_lookups.specs.Prelude.{IsKept}
use Rattle.ci_server.specs.Prelude.{TellsPipelineAt}
use Rattle.ci_server.proofs.Reports.{reported}
use Rattle.ci_server.proofs.fail_stop.FailStop.pipeline.Goals as goal

pub returns : goal.returns
returns g c =
    reported g.T.Store.honest g.T.Store.holds g.T.Store.leaves (TellsPipelineAt c.args.id) c.sound_of_each_reached_state.ensures c.args.self.now _ (λ k told. IsKept k → TellsPipeline k.state k.board (pipeline_at k.state c.args.id) told) c.pipeline_rows.result c.report_of-told.result c.if-self.false c.report_of-told.ensures c.is_report_fault-self.ensures
    refl c.pipeline_rows.ensures (λ s k of kept told is. (k.board, of.are_board, subst (λ t. TellsPipeline t k.board (pipeline_at t c.args.id) told) of.state (is kept)))
