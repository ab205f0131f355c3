use Rattle.std.proofs.Common.{arith}
use Rattle.serde_json.specs.View.{view}
use Rattle.ci_store_rows.specs.Prelude.{list_data}
use Rattle.ci_store_rows.proofs.JsonTexts.{no_float, flat, told, told_back}
use Rattle.ci_store_rows.proofs.json.texts.list_text.Goals as goal

pub returns-clause-text : goal.returns-clause-text
returns-clause-text c = told _ (view c.in_ok-value.value) (list_data c.args.texts.now) c.in_ok-value.ensures (no_float c.args.texts.now) c.to_string.ensures.text

pub returns-clause-reads_back : goal.returns-clause-reads_back
returns-clause-reads_back c =
    told_back _ (view c.in_ok-value.value) (list_data c.args.texts.now) c.in_ok-value.ensures (let none = flat c.args.texts.now in omega (arith, none)) (returns-clause-text c) c.to_string.ensures.reads_back
