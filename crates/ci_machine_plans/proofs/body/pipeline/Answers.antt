use Rattle.std.proofs.Common.{◌∙◌, ap}
use Rattle.serde_json.specs.Written.{has_float}
use Rattle.ci_machine_plans.proofs.Floats.{pipeline_has_none}
use Rattle.ci_machine_plans.proofs.body.pipeline.Goals as goal

pub into_text-requires : goal.into_text-requires
into_text-requires c = ap has_float c.in_ok-pipeline_object.ensures ∙ pipeline_has_none c.args.pipeline.now c.args.claims.now c.args.jobs.now c.args.facts.now c.args.rows.now
