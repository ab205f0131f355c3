use Rattle.ci_store_rows.proofs.JsonReading.{same_read}
use Rattle.ci_store_rows.proofs.Reading.{if_ok}
use Rattle.ci_store_rows.proofs.json.options.read_spec.Goals as goal

pub returns : goal.returns
returns c = if_ok c.spec_of.result (λ it same other reads. same other (same_read c.args.text.now _ _ c.in_ok-value.ensures reads)) c.spec_of.ensures
