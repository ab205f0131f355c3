use Rattle.std.proofs.Common.{◌≡◌, map, take}
use Rattle.serde_json.specs.View.{view}
use Rattle.ci_machine_plans.proofs.listings.list_value.Given as goal

abbrev pub invariant-loop-one : goal.invariant-loop-one
invariant-loop-one g l = map view l.items.items ≡ map g.T.Listed.as_data (take l.one-index l.all)
