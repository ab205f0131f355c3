use Rattle.std.proofs.Common.{◌≡◌, Some, None, length, ap, sym, subst, ◌∙◌, rules}
use Rattle.std.proofs.lemmas.List.{length-map}
use Rattle.ci_graph_layout.specs.Prelude.{AreWithin, HasCycle, IsAcyclic, GraphCode, first_fault, pairs, stages_of, jobs_of}
use Rattle.ci_graph_layout.proofs.Planned.{first_other, plans_fault, plans_cycle, plans_jobs, pairs_found}
use Rattle.ci_graph_layout.proofs.places.Lineup.ordered.Goals as goal

pub returns-in-Some-clause-orders : goal.returns-in-Some-clause-orders
returns-in-Some-clause-orders c =
    let first : first_fault (stages_of c.args.self.now) (jobs_of c.args.self.now) ≡ Some c.in-Some.code = sym c.first_fault.ensures ∙ c.in-Some.is in (
      λ g k e f. plans_fault g k (stages_of c.args.self.now) (jobs_of c.args.self.now) c.in-Some.code e f first,
      λ e. absurd (first_other (stages_of c.args.self.now) (jobs_of c.args.self.now) (first ∙ ap (λ (code : GraphCode). Some code) e)),
    )

pub are_acyclic-requires : goal.are_acyclic-requires
are_acyclic-requires c =
    let found : c.deref.result.now ≡ pairs (stages_of c.args.self.now) (jobs_of c.args.self.now) = c.deref.ensures.value ∙ c.in_ok-pairs.ensures in
    let within : AreWithin (length (jobs_of c.args.self.now)) c.deref.result.now = pairs_found (stages_of c.args.self.now) (jobs_of c.args.self.now) c.deref.result.now found in
    let long : length (jobs_of c.args.self.now) ≡ c.len.result = search (length-map, rules) in
    record { within = subst (λ n. AreWithin n c.deref.result.now) long within }

pub returns-then-not-branch-clause-orders : goal.returns-then-not-branch-clause-orders
returns-then-not-branch-clause-orders c =
    let none : first_fault (stages_of c.args.self.now) (jobs_of c.args.self.now) ≡ None = search rules in
    let found : c.deref.result.now ≡ pairs (stages_of c.args.self.now) (jobs_of c.args.self.now) = c.deref.ensures.value ∙ c.in_ok-pairs.ensures in
    let cycle : HasCycle c.deref.result.now = c.in_ok-are_acyclic.ensures.cycle (search rules) in
    (λ g k e f. plans_cycle g k (stages_of c.args.self.now) (jobs_of c.args.self.now) c.deref.result.now e f none found cycle, λ e. subst (λ ps. HasCycle ps) found cycle)

pub returns-clause-orders : goal.returns-clause-orders
returns-clause-orders c = λ g k e f.
    let none : first_fault (stages_of c.args.self.now) (jobs_of c.args.self.now) ≡ None = search rules in
    let acyclic : IsAcyclic c.in_ok-pairs.pairs.items = subst (λ ps. IsAcyclic ps) c.deref.ensures.value (c.in_ok-are_acyclic.ensures.acyclic (search rules)) in
    plans_jobs g k (stages_of c.args.self.now) (jobs_of c.args.self.now) c.in_ok-pairs.pairs.items e f none c.in_ok-pairs.ensures acyclic

pub returns-clause-graph : goal.returns-clause-graph
returns-clause-graph c =
    let within : AreWithin (length (jobs_of c.args.self.now)) c.in_ok-pairs.pairs.items = pairs_found (stages_of c.args.self.now) (jobs_of c.args.self.now) c.in_ok-pairs.pairs.items c.in_ok-pairs.ensures in
    let acyclic : IsAcyclic c.in_ok-pairs.pairs.items = subst (λ ps. IsAcyclic ps) c.deref.ensures.value (c.in_ok-are_acyclic.ensures.acyclic (search rules)) in
    record { within = within; acyclic = acyclic }
