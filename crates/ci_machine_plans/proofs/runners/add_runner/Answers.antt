use Rattle.std.proofs.Common.{option_copied, ◌≡◌}
use Rattle.ci_machine_steps.specs.Prelude.{made_runner, add_runner}
use Rattle.ci_machine_plans.specs.Refusals.{unmade}
use Rattle.ci_machine_plans.proofs.runners.add_runner.Goals as goal

pub returns-in-Some : goal.returns-in-Some
returns-in-Some c =
    let project = option_copied c.args.project in
    let refused : unmade c.in-Some.refusal ≡ add_runner c.args.next project c.args.new c.args.seed = c.in-Some.ensures.plan (made_runner c.args.next c.args.new c.args.seed) in
    rw refused at c.unmade.ensures
