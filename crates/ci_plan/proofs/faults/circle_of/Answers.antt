use Rattle.std.proofs.Common.{◌≡◌, ℕ, length, subst, ◌∙◌, rules}
use Rattle.std.proofs.lemmas.List.{length-map}
use Rattle.ci_graph_layout.specs.Prelude.{AreWithin, stages_of, jobs_of}
use Rattle.ci_graph_layout.proofs.Planned.{pairs_found}
use Rattle.ci_plan.proofs.faults.circle_of.Goals as goal

pub circle-requires-clause-within : goal.circle-requires-clause-within
circle-requires-clause-within c =
    let long : length (jobs_of c.args.lineup.now) ≡ c.len.result = search (length-map, rules) in
    subst (λ (n : ℕ). AreWithin n c.deref.result.now) long
    (pairs_found (stages_of c.args.lineup.now) (jobs_of c.args.lineup.now) c.deref.result.now (c.deref.ensures.value ∙ c.in_ok-pairs.ensures))
