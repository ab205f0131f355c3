use Rattle.std.proofs.Common.{◌∙◌, ap}
use Rattle.serde_json.specs.Written.{has_float}
use Rattle.ci_machine_plans.proofs.Floats.{items}
use Rattle.ci_machine_plans.proofs.listings.list.Goals as goal

pub body_of-requires : goal.body_of-requires
body_of-requires g c = ap has_float c.in_ok-value.ensures ∙ items g.T.Listed.as_data g.met.T.Listed.plain c.args.all.now
