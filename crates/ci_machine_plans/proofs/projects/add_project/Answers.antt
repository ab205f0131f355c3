use Rattle.std.proofs.Common.{◌≡◌}
use Rattle.ci_machine_steps.specs.Prelude.{made_project, add_project}
use Rattle.ci_machine_plans.specs.Refusals.{unmade}
use Rattle.ci_machine_plans.proofs.projects.add_project.Goals as goal

pub returns-in-Some : goal.returns-in-Some
returns-in-Some c =
    let refused : unmade c.in-Some.refusal ≡ add_project c.args.next c.args.name c.args.seed = c.in-Some.ensures.plan (made_project c.args.next c.args.name c.args.seed) in
    rw refused at c.unmade.ensures
