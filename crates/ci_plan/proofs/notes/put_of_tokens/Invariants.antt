use Rattle.std.proofs.Common.{◌≡◌, drop, map}
use Rattle.ci_graph_layout.specs.Prelude.{token_view}
use Rattle.ci_plan.specs.Notes.{compared, with_names}
use Rattle.ci_plan.proofs.notes.put_of_tokens.Given as goal

abbrev pub invariant-loop-place : goal.invariant-loop-place
invariant-loop-place l = with_names l.fn.asking l.notes.items (compared (map token_view (drop l.place l.tokens))) ≡ with_names l.fn.asking l.fn.notes.items (compared (map token_view l.tokens))
