use Rattle.std.proofs.Common.{◌≡◌, ◌∙◌, arith, ap, map}
use Rattle.std.proofs.lemmas.Grind.{common_steps}
use Rattle.serde_json.specs.Data.{array}
use Rattle.serde_json.specs.View.{view, items_of}
use Rattle.ci_machine_steps.specs.Prelude.{variable_data}
use Rattle.serde_json.proofs.Views.{view-Array}
use Rattle.ci_machine_plans.proofs.body.variables.Goals as goal

pub loop-one-preserved : goal.loop-one-preserved
loop-one-preserved c = grind (arith, common_steps)

pub returns : goal.returns
returns c =
    let all : map view c.loop-one.items.items ≡ map variable_data c.args.variables.now = grind (arith, common_steps) in
    view-Array _ ∙ ap (λ ds. array (items_of ds)) all
