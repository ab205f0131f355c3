use Rattle.std.proofs.Common.{◌∙◌, ap}
use Rattle.serde_json.specs.Written.{has_float}
use Rattle.ci_machine_plans.proofs.Floats.{grant_has_none}
use Rattle.ci_machine_plans.proofs.body.grant.Goals as goal

pub into_text-requires : goal.into_text-requires
into_text-requires c = ap has_float c.in_ok-grant_object.ensures ∙ grant_has_none c.args.attempt c.args.token.now c.args.queued.now c.args.variables.now
