use Rattle.std.proofs.Common.{◌∙◌, ap}
use Rattle.serde_json.specs.Written.{has_float}
use Rattle.ci_machine_plans.proofs.Floats.{told_have_none}
use Rattle.ci_machine_plans.proofs.listed_jobs.jobs.Goals as goal

pub body_of-requires : goal.body_of-requires
body_of-requires c =
    let a = c.args.around.now in
    ap has_float c.in_ok-told.ensures ∙ told_have_none a.claims.now a.project a.runners.now a.needs.now a.attempts.now c.args.jobs.now c.args.facts.now c.args.rows.now
