use Rattle.std.proofs.Common.{◌≡◌, ℕ, ◌<◌, List, [], length, ap, subst, ◌∙◌, arith}
use Rattle.std.proofs.lemmas.List.{length-map}
use Rattle.std.proofs.lemmas.List.FromFn.{fill_by_all}
use Rattle.ci_machine.specs.Prelude.{distinct, firsts_of, JobGraph, IsJobGraph, HasPairs, IsAcyclic}
use Rattle.ci_machine_steps.specs.Prelude.{predecessors_by}
use Rattle.ci_machine_statuses.proofs.load.graph_of.Goals as goal

-- its predecessors are those of the pairs
predecessors_are : (g : JobGraph) (pairs : List (ℕ × ℕ)) (count : ℕ) → IsJobGraph g → HasPairs g pairs → length g.parts ≡ count → g.predecessors ≡ predecessors_by pairs count
predecessors_are g pairs count is has long =
    fill_by_all (λ (place : ℕ). distinct (firsts_of pairs place)) g.predecessors count [] (is.predecessors_long ∙ long)
    (λ i l. has.predecessors i (let z : i < count = l in omega (arith, long)))

pub returns-clause-predecessors : goal.returns-clause-predecessors
returns-clause-predecessors g c = λ up.
    predecessors_are c.in_ok-graph.graph c.as_slice.result.now (length c.args.jobs.now) c.size-size.ensures.graph c.in_ok-graph.ensures.pairs
    (ap length (c.in_ok-graph.ensures.parts ∙ c.in_ok-parts.ensures) ∙ length-map c.args.jobs.now (λ j. j.options.part))
    ∙ ap (λ p. predecessors_by p (length c.args.jobs.now)) (c.as_slice.ensures.value ∙ c.in_ok-pairs.ensures.pairs up)

pub returns-clause-fits : goal.returns-clause-fits
returns-clause-fits g c = λ up. record { named = c.in_ok-pairs.ensures.named up; acyclic = subst IsAcyclic (c.as_slice.ensures.value ∙ c.in_ok-pairs.ensures.pairs up) c.in_ok-graph.ensures.acyclic }
