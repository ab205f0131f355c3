use Rattle.std.proofs.Common.{◌≡◌, ◌∙◌, arith, ap, map}
use Rattle.std.proofs.lemmas.Grind.{common_steps}
use Rattle.serde_json.specs.Data.{array}
use Rattle.serde_json.specs.View.{view, items_of}
use Rattle.serde_json.proofs.Views.{view-Array}
use Rattle.ci_machine_plans.proofs.listings.list_value.Goals as goal

pub loop-one-preserved : goal.loop-one-preserved
loop-one-preserved g c = grind (arith, common_steps)

pub returns : goal.returns
returns g c =
    let all : map view c.loop-one.items.items ≡ map g.T.Listed.as_data c.args.all.now = grind (arith, common_steps) in
    view-Array _ ∙ ap (λ ds. array (items_of ds)) all
