use Rattle.std.proofs.Common.{◌≡◌, ℕ, List, length, ap, ◌∙◌}
use Rattle.ci_graph.specs.Lists.{IsOrder, IsStuck}
use Rattle.ci_graph.proofs.Groups.{neighbours_of}
use Rattle.ci_graph.proofs.Graphs.{within_at, neighbours_at, order_same, stuck_same, found_cycle, found_order, some_says, none_says}
use Rattle.ci_graph.proofs.acyclic.are_acyclic.Goals as goal

pub order_of-requires : goal.order_of-requires
order_of-requires c =
    let gives = c.in_ok-predecessors.ensures in
    let e : length c.as_slice.result.now ≡ c.args.count = ap length c.as_slice.ensures.value ∙ gives.predecessors_long in
    record { pairs = (c.args.pairs.now, within_at _ _ _ e c.requires.within, neighbours_at _ _ _ _ _ _ _ e c.as_slice.ensures.value c.as_slice-2.ensures.value gives) }

pub returns-in-Some-clause-acyclic : goal.returns-in-Some-clause-acyclic
returns-in-Some-clause-acyclic c = λ _.
    let h = neighbours_of c.args.count c.args.pairs.now c.in_ok-predecessors.predecessors.items c.in_ok-predecessors.successors.items c.requires.within c.in_ok-predecessors.ensures in
    let e : length c.as_slice.result.now ≡ c.args.count = ap length c.as_slice.ensures.value ∙ h.predecessors_long in
    let o : IsOrder (length c.as_slice.result.now) c.as_slice.result.now c.in-Some.field-0.items = some_says _ _ _ c.in-Some.is c.in_ok-order_of.ensures.order in
    found_order c.args.count c.args.pairs.now (record { predecessors = c.in_ok-predecessors.predecessors.items; successors = c.in_ok-predecessors.successors.items }) _ c.requires.within h
    (order_same _ _ _ _ _ e c.as_slice.ensures.value o)

pub returns-clause-cycle : goal.returns-clause-cycle
returns-clause-cycle c = λ _.
    let h = neighbours_of c.args.count c.args.pairs.now c.in_ok-predecessors.predecessors.items c.in_ok-predecessors.successors.items c.requires.within c.in_ok-predecessors.ensures in
    let e : length c.as_slice.result.now ≡ c.args.count = ap length c.as_slice.ensures.value ∙ h.predecessors_long in
    let s : (taken : List ℕ) × IsStuck (length c.as_slice.result.now) c.as_slice.result.now taken = none_says _ _ c.in-None.is c.in_ok-order_of.ensures.stuck in
    found_cycle c.args.count c.args.pairs.now (record { predecessors = c.in_ok-predecessors.predecessors.items; successors = c.in_ok-predecessors.successors.items }) s.0 c.requires.within h
    (stuck_same _ _ _ _ _ e c.as_slice.ensures.value s.1)
