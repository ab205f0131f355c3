use Rattle.std.proofs.Common.{◌≡◌, ◌++◌, drop, map, filter}
use Rattle.ci_graph_layout.specs.Prelude.{need_view, is_unmet, jobs_of, included_view}
use Rattle.ci_plan.specs.Faults.{named_need}
use Rattle.ci_plan.proofs.faults.put_unmet.Given as goal

abbrev pub invariant-loop-need : goal.invariant-loop-need
invariant-loop-need l = l.found.items ++ map (named_need (included_view l.fn.job)) (filter (is_unmet (jobs_of l.fn.lineup)) (map need_view (drop l.need-index l.need-items)))
    ≡ l.fn.found.items ++ map (named_need (included_view l.fn.job)) (filter (is_unmet (jobs_of l.fn.lineup)) (map need_view l.need-items))
