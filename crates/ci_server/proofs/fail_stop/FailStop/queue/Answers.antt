use Rattle.std.proofs.Common.{◌≡◌, ◌∙◌, ap, refl}
use Rattle.ci_machine_steps.specs.Prelude.{queue_rows}
use Rattle.ci_server_lookups.specs.Prelude.{IsKept}
use Rattle.ci_server.specs.Prelude.{TellsQueue}
use Rattle.ci_server.proofs.Reports.{reported}
use Rattle.ci_server.proofs.fail_stop.FailStop.queue.Goals as goal

pub returns : goal.returns
returns g c =
    reported g.T.Store.honest g.T.Store.holds g.T.Store.leaves TellsQueue c.sound_of_each_reached_state.ensures c.args.self.now _ (λ k told. IsKept k → told.items ≡ queue_rows k.state k.board) c.queue_rows.result c.report_of-told.result c.if-self.false c.report_of-told.ensures c.is_report_fault-self.ensures
    refl c.queue_rows.ensures (λ s k of kept told is. (k.board, of.are_board, is kept ∙ ap (λ t. queue_rows t k.board) of.state))
