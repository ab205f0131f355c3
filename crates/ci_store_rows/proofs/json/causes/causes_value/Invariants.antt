use Rattle.std.proofs.Common.{◌≡◌, ◌++◌, map, filter, drop}
use Rattle.serde_json.specs.Data.{string}
use Rattle.serde_json.specs.View.{view}
use Rattle.ci_machine.specs.Prelude.{has_cause}
use Rattle.ci_store_rows.specs.Prelude.{cause_text, every_cause}
use Rattle.ci_store_rows.proofs.json.causes.causes_value.Given as goal

abbrev pub invariant-loop-cause : goal.invariant-loop-cause
invariant-loop-cause l =
    map view l.names.items ++ map string (map cause_text (filter (has_cause l.causes) (drop l.cause-index l.cause-items))) ≡ map string (map cause_text (filter (has_cause l.causes) every_cause))
