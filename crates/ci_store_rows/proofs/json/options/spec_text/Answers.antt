use Rattle.serde_json.specs.View.{view}
use Rattle.ci_store_rows.specs.Prelude.{spec_data}
use Rattle.ci_store_rows.proofs.JsonTexts.{spec_float, spec_low, told, told_back}
use Rattle.ci_store_rows.proofs.json.options.spec_text.Goals as goal

pub returns-clause-text : goal.returns-clause-text
returns-clause-text c = told _ (view c.in_ok-value.value) (spec_data c.args.spec.now) c.in_ok-value.ensures (spec_float c.args.spec.now) c.to_string.ensures.text

pub returns-clause-reads_back : goal.returns-clause-reads_back
returns-clause-reads_back c = told_back _ (view c.in_ok-value.value) (spec_data c.args.spec.now) c.in_ok-value.ensures (spec_low c.args.spec.now) (returns-clause-text c) c.to_string.ensures.reads_back
