use Rattle.std.proofs.Common.{map}
use Rattle.ci_graph_layout.specs.Prelude.{token_view}
use Rattle.ci_plan.specs.Notes.{compared, with_names}
use Rattle.ci_plan.proofs.Noting.{one_more}
use Rattle.ci_plan.proofs.notes.put_of_tokens.Goals as goal

pub loop-place-preserved : goal.loop-place-preserved
loop-place-preserved c =
    one_more c.args.asking c.args.tokens.now c.loop-place.place (with_names c.args.asking c.args.notes.now.items (compared (map token_view c.args.tokens.now)))
    c.loop-place.notes.items c.put_first.new.notes.items c.loop-place-test.true c.in_ok-put_first.ensures c.loop-place.invariant
