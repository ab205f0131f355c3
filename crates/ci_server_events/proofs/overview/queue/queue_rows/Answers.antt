use Rattle.std.proofs.Common.{◌∙◌}
use Rattle.ci_server_lookups.proofs.Loading.{continues}
use Rattle.ci_server_events.proofs.ReportTelling.{all_told}
use Rattle.ci_server_events.proofs.overview.queue.queue_rows.Goals as goal

pub returns : goal.returns
returns g c =
    continues c.in_ok-rows.was
    c.rows_with.ensures c.told_of.ensures
    (λ k told was found so kept. all_told c.the_queue_is_its_rows.ensures k c.as_slice.result.now told.items kept (c.as_slice.ensures.value ∙ found) (so kept))
