-- The variables so far stand before those of the entries that are left.
use Rattle.std.proofs.Common.{◌≡◌, ◌++◌, drop, option_map}
use Rattle.serde_json.specs.View.{items_view}
use Rattle.ci_http_messages.specs.Prelude.{each_variable}
use Rattle.ci_http_messages.proofs.payloads.creation.each_variable.Given as goal

abbrev pub invariant-loop-entry : goal.invariant-loop-entry
invariant-loop-entry l =
    each_variable (items_view l.entries)
    ≡ option_map (λ variables. l.variables.items ++ variables) (each_variable (items_view (drop l.entry-index l.entries)))
