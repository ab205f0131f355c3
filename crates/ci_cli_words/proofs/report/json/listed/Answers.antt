use Rattle.std.proofs.Common.{◌≡◌, ◌∙◌, arith, ap, map}
use Rattle.std.proofs.lemmas.Grind.{common_steps}
use Rattle.serde_json.specs.Data.{array}
use Rattle.serde_json.specs.View.{view, items_of}
use Rattle.serde_json.proofs.Views.{view-Array}
use Rattle.ci_cli_words.proofs.report.json.listed.Goals as goal

pub loop-row-preserved : goal.loop-row-preserved
loop-row-preserved g c = grind (arith, common_steps)

pub returns : goal.returns
returns g c =
    let all : map view c.loop-row.items.items ≡ map g.T.Told.told c.args.rows.now = grind (arith, common_steps) in
    view-Array _ ∙ ap (λ ds. array (items_of ds)) all
