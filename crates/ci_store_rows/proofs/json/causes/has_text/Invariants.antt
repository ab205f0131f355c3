use Rattle.std.proofs.Common.{◌≡◌, map, drop}
use Rattle.std.specs.List.{list_any}
use Rattle.serde_json.specs.View.{view}
use Rattle.ci_store_rows.specs.Prelude.{is_text}
use Rattle.ci_store_rows.proofs.json.causes.has_text.Given as goal

abbrev pub invariant-loop-item : goal.invariant-loop-item
invariant-loop-item l = list_any (is_text l.text) (map view (drop l.item-index l.items)) ≡ list_any (is_text l.text) (map view l.items)
