use Rattle.std.proofs.Common.{◌≡◌, ◌∙◌, arith, ap, map}
use Rattle.std.proofs.lemmas.Grind.{common_steps}
use Rattle.serde_json.specs.Data.{array, string}
use Rattle.serde_json.specs.View.{view, items_of}
use Rattle.serde_json.proofs.Views.{view-Array}
use Rattle.ci_machine_plans.proofs.body.lines.Goals as goal

pub loop-text-preserved : goal.loop-text-preserved
loop-text-preserved c = grind (arith, common_steps)

pub returns : goal.returns
returns c =
    let all : map view c.loop-text.items.items ≡ map string c.args.texts.now = grind (arith, common_steps) in
    view-Array _ ∙ ap (λ ds. array (items_of ds)) all
