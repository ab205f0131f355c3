use Rattle.std.proofs.Common.{◌≡◌, ◌<◌, ◌^◌, ℕ, List, length, arith, ap, ◌∙◌, sym, refl}
use Rattle.ci_graph.specs.Lists.{IsOrder, IsStuck}
use Rattle.ci_graph.proofs.Groups.{neighbours_of}
use Rattle.ci_graph.proofs.Graphs.{neighbours_at, within_at, order_same, stuck_same, found_cycle, found_order, graph_of, pairs_of, some_says, none_says}
use Rattle.ci_graph.proofs.graph.Graph.new.Goals as goal

pub order_of-requires : goal.order_of-requires
order_of-requires g c =
    let n : c.len.result ≡ length c.args.parts.items = omega arith in
    let gives = neighbours_at (length c.args.parts.items) c.len.result c.args.pairs.now c.in-Ok.predecessors.items _ c.in-Ok.successors.items _ (sym n) refl refl c.in-Ok.ensures in
    let h = neighbours_of (length c.args.parts.items) c.args.pairs.now c.in-Ok.predecessors.items c.in-Ok.successors.items c.requires.within gives in
    let e : length c.args.parts.items ≡ length c.as_slice.result.now = sym (ap length c.as_slice.ensures.value ∙ h.predecessors_long) in
    record { pairs = (c.args.pairs.now, within_at _ _ _ (sym e) c.requires.within, neighbours_at _ _ _ _ _ _ _ (sym e) c.as_slice.ensures.value c.as_slice-2.ensures.value gives) }

pub invariant_of-result : goal.invariant_of-result
invariant_of-result g c =
    let n : c.len.result ≡ length c.args.parts.items = omega arith in
    let gives = neighbours_at (length c.args.parts.items) c.len.result c.args.pairs.now c.in-Ok.predecessors.items _ c.in-Ok.successors.items _ (sym n) refl refl c.in-Ok.ensures in
    let h = neighbours_of (length c.args.parts.items) c.args.pairs.now c.in-Ok.predecessors.items c.in-Ok.successors.items c.requires.within gives in
    let e : length c.as_slice.result.now ≡ length c.args.parts.items = ap length c.as_slice.ensures.value ∙ h.predecessors_long in
    let few : length c.args.parts.items < 2 ^ 64 = omega arith in (
      omega (arith, c.open-book.ensures.parts, c.requires.ledger, c.requires.some),
      graph_of _ c.args.pairs.now c.requires.within few h
          (order_same _ _ _ _ _ e c.as_slice.ensures.value (some_says _ _ _ c.in-Ok-Some.field-0-is c.in-Ok-Some.ensures.order)),
    )

pub returns-in-Ok-Some-clause-pairs : goal.returns-in-Ok-Some-clause-pairs
returns-in-Ok-Some-clause-pairs g c =
    let n : c.len.result ≡ length c.args.parts.items = omega arith in
    let gives = neighbours_at (length c.args.parts.items) c.len.result c.args.pairs.now c.in-Ok.predecessors.items _ c.in-Ok.successors.items _ (sym n) refl refl c.in-Ok.ensures in
    let e : length c.as_slice.result.now ≡ length c.args.parts.items = ap length c.as_slice.ensures.value ∙ gives.predecessors_long in
    pairs_of _ c.args.pairs.now gives (order_same _ _ _ _ _ e c.as_slice.ensures.value (some_says _ _ _ c.in-Ok-Some.field-0-is c.in-Ok-Some.ensures.order))

pub returns-in-Ok-Some-clause-acyclic : goal.returns-in-Ok-Some-clause-acyclic
returns-in-Ok-Some-clause-acyclic g c =
    let n : c.len.result ≡ length c.args.parts.items = omega arith in
    let gives = neighbours_at (length c.args.parts.items) c.len.result c.args.pairs.now c.in-Ok.predecessors.items _ c.in-Ok.successors.items _ (sym n) refl refl c.in-Ok.ensures in
    let h = neighbours_of (length c.args.parts.items) c.args.pairs.now c.in-Ok.predecessors.items c.in-Ok.successors.items c.requires.within gives in
    let e : length c.as_slice.result.now ≡ length c.args.parts.items = ap length c.as_slice.ensures.value ∙ h.predecessors_long in
    let o : IsOrder (length c.as_slice.result.now) c.as_slice.result.now c.in-Ok-Some.order.items = some_says _ _ _ c.in-Ok-Some.field-0-is c.in-Ok-Some.ensures.order in
    found_order (length c.args.parts.items) c.args.pairs.now (record { predecessors = c.in-Ok.predecessors.items; successors = c.in-Ok.successors.items }) _ c.requires.within h
    (order_same _ _ _ _ _ e c.as_slice.ensures.value o)

pub returns-in-Ok-None-clause-fault : goal.returns-in-Ok-None-clause-fault
returns-in-Ok-None-clause-fault g c =
    let n : c.len.result ≡ length c.args.parts.items = omega arith in
    let gives = neighbours_at (length c.args.parts.items) c.len.result c.args.pairs.now c.in-Ok.predecessors.items _ c.in-Ok.successors.items _ (sym n) refl refl c.in-Ok.ensures in
    let h = neighbours_of (length c.args.parts.items) c.args.pairs.now c.in-Ok.predecessors.items c.in-Ok.successors.items c.requires.within gives in
    let e : length c.as_slice.result.now ≡ length c.args.parts.items = ap length c.as_slice.ensures.value ∙ h.predecessors_long in
    let s : (taken : List ℕ) × IsStuck (length c.as_slice.result.now) c.as_slice.result.now taken = none_says _ _ c.in-Ok-None.field-0-is c.in-Ok-None.ensures.stuck in
    found_cycle (length c.args.parts.items) c.args.pairs.now (record { predecessors = c.in-Ok.predecessors.items; successors = c.in-Ok.successors.items }) s.0 c.requires.within h
    (stuck_same _ _ _ _ _ e c.as_slice.ensures.value s.1)
