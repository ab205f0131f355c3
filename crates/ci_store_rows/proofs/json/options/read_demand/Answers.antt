use Rattle.ci_store_rows.proofs.JsonReading.{same_read}
use Rattle.ci_store_rows.proofs.Reading.{if_ok}
use Rattle.ci_store_rows.proofs.json.options.read_demand.Goals as goal

pub returns-clause-reads : goal.returns-clause-reads
returns-clause-reads c = if_ok c.demand_of.result (λ it asks other reads. asks other (same_read c.args.text.now _ _ c.in_ok-value.ensures reads)) c.demand_of.ensures.asks
