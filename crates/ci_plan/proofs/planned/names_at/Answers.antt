use Rattle.std.proofs.Common.{map, ◌∙◌}
use Rattle.ci_graph_layout.specs.Prelude.{included_view}
use Rattle.ci_plan.specs.Planned.{name_at}
use Rattle.ci_plan.proofs.Further.{pushed_further}
use Rattle.ci_plan.proofs.planned.names_at.Goals as goal

pub loop-place-preserved : goal.loop-place-preserved
loop-place-preserved c =
    pushed_further (name_at (map included_view c.args.jobs.now)) _ 0 _ c.loop-place-test.true c.in_ok-push.ensures.items (c.in_ok-copy_of.ensures ∙ c.name_at.ensures) c.loop-place.invariant
