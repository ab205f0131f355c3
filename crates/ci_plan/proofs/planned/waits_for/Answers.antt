use Rattle.std.proofs.Common.{◌≡◌, ℕ, List, map, ap, subst, ◌∙◌, IfOk}
use Rattle.ci_graph_layout.specs.Prelude.{Text, jobs_of, included_view}
use Rattle.ci_graph_layout.specs.declared.inclusion.IncludedJob.{IncludedJob}
use Rattle.ci_plan.specs.Planned.{name_at}
use Rattle.ci_plan.proofs.planned.waits_for.Goals as goal

pub returns : goal.returns
returns c =
    subst (λ (ns : List Text). IfOk c.names_at.result (λ names. names ≡ ns))
    (ap (λ (js : List IncludedJob). map (name_at (map included_view js)) c.deref-2.result.now) c.deref.ensures.value
    ∙ ap (λ (ps : List ℕ). map (name_at (jobs_of c.args.lineup.now)) ps) (c.deref-2.ensures.value ∙ c.in_ok-places.ensures))
    c.names_at.ensures
