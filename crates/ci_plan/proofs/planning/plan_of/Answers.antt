use Rattle.std.proofs.Common.{List, map, ap, ◌∙◌}
use Rattle.ci_graph_layout.specs.Prelude.{decided_view}
use Rattle.ci_graph_layout.specs.declared.inclusion.Decided.{Decided}
use Rattle.ci_plan.specs.Rules.{left_out}
use Rattle.ci_plan.proofs.planning.plan_of.Goals as goal

pub returns : goal.returns
returns c = λ g k l. record {
  jobs = c.in_ok-jobs.ensures g k l.stages l.jobs;
  left_out = c.in_ok-left_out.ensures ∙ ap (λ (ds : List Decided). left_out (map decided_view ds)) c.deref.ensures.value ∙ ap left_out l.decided;
}
