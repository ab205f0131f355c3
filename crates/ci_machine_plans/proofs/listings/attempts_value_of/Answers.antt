use Rattle.std.proofs.Common.{◌≡◌, ◌∙◌, arith, ap, map}
use Rattle.std.proofs.lemmas.Grind.{common_steps}
use Rattle.serde_json.specs.Data.{array}
use Rattle.serde_json.specs.View.{view, items_of}
use Rattle.serde_json.proofs.Views.{view-Array}
use Rattle.ci_machine_steps.specs.Prelude.{attempt_data, attempts_among}
use Rattle.ci_machine_plans.proofs.listings.attempts_value_of.Goals as goal

pub returns : goal.returns
returns c =
    let all : map view c.loop-attempt.items.items ≡ map (attempt_data c.args.runners.now) (attempts_among c.args.attempts.now c.args.job) = grind (arith, common_steps) in
    view-Array _ ∙ ap (λ ds. array (items_of ds)) all
