use Rattle.std.proofs.Common.{◌≡◌, ◌∙◌, arith, ap, map}
use Rattle.std.proofs.lemmas.Grind.{common_steps}
use Rattle.serde_json.specs.Data.{array, number, unsigned}
use Rattle.serde_json.specs.View.{view, items_of}
use Rattle.serde_json.proofs.Views.{view-Array}
use Rattle.ci_machine_steps.specs.Prelude.{needs_among}
use Rattle.ci_machine_plans.proofs.listed_jobs.needs_value.Goals as goal

pub returns : goal.returns
returns c =
    let all : map view c.loop-need.items.items ≡ map (λ n. number (unsigned n)) (needs_among c.args.needs.now c.args.job) = grind (arith, common_steps) in
    view-Array _ ∙ ap (λ ds. array (items_of ds)) all
