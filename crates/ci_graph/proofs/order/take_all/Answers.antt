use Rattle.std.proofs.Common.{◌≡◌, ◌<◌, ℕ, length, refl, arith, ap, ◌∙◌}
use Rattle.std.proofs.lemmas.List.{get_or_read}
use Rattle.ci_graph.specs.Lists.{number_at, list_at}
use Rattle.ci_graph.proofs.Steps.{released}
use Rattle.ci_graph.proofs.Queues.{taken_inside, succ_inside, succ_few, released_is, ready_start, ready_more, ready_end, ready_stuck}
use Rattle.ci_graph.proofs.Groups.{neighbours_of}
use Rattle.ci_graph.proofs.order.take_all.Goals as goal

pub returns-then-k-len-clause-stuck : goal.returns-then-k-len-clause-stuck
returns-then-k-len-clause-stuck c = λ e.
    ready_stuck (length c.args.predecessors.now) c.args.predecessors.now c.loop-k.k (record { queue = c.loop-k.queue.items; left = c.loop-k.left }) c.loop-k.invariant (omega arith) (omega arith)

pub take_one-requires-clause-job : goal.take_one-requires-clause-job
take_one-requires-clause-job c =
    let at : c.index-j.result.now ≡ number_at c.loop-k.queue.items c.loop-k.k = get_or_read c.loop-k.queue.items c.loop-k.k c.index-j.result.now (omega arith) c.index-j.ensures 0 in
    let low : number_at c.loop-k.queue.items c.loop-k.k < length c.args.predecessors.now
    = taken_inside (length c.args.predecessors.now) c.args.predecessors.now c.loop-k.k (record { queue = c.loop-k.queue.items; left = c.loop-k.left }) c.loop-k.invariant (omega arith) in
    let long : length c.args.successors.now ≡ length c.args.predecessors.now = c.requires.pairs.2.successors_long in
    omega arith

pub take_one-requires-clause-inside : goal.take_one-requires-clause-inside
take_one-requires-clause-inside c = λ k l.
    let at : c.index-j.result.now ≡ number_at c.loop-k.queue.items c.loop-k.k = get_or_read c.loop-k.queue.items c.loop-k.k c.index-j.result.now (omega arith) c.index-j.ensures 0 in
    let low : number_at c.loop-k.queue.items c.loop-k.k < length c.args.predecessors.now
    = taken_inside (length c.args.predecessors.now) c.args.predecessors.now c.loop-k.k (record { queue = c.loop-k.queue.items; left = c.loop-k.left }) c.loop-k.invariant (omega arith) in
    let b : number_at (list_at c.args.successors.now c.index-j.result.now) k < length c.args.predecessors.now
    = succ_inside (length c.args.predecessors.now) c.requires.pairs.0 (record { predecessors = c.args.predecessors.now; successors = c.args.successors.now })
    (neighbours_of _ c.requires.pairs.0 c.args.predecessors.now c.args.successors.now c.requires.pairs.1 c.requires.pairs.2) c.index-j.result.now k (omega arith) l in
    let long : length c.loop-k.left ≡ length c.args.predecessors.now = c.loop-k.invariant.long in
    omega arith

pub take_one-requires-clause-each_once : goal.take_one-requires-clause-each_once
take_one-requires-clause-each_once c = λ i.
    let at : c.index-j.result.now ≡ number_at c.loop-k.queue.items c.loop-k.k = get_or_read c.loop-k.queue.items c.loop-k.k c.index-j.result.now (omega arith) c.index-j.ensures 0 in
    let low : number_at c.loop-k.queue.items c.loop-k.k < length c.args.predecessors.now
    = taken_inside (length c.args.predecessors.now) c.args.predecessors.now c.loop-k.k (record { queue = c.loop-k.queue.items; left = c.loop-k.left }) c.loop-k.invariant (omega arith) in
    succ_few _ c.requires.pairs.0 _ (neighbours_of _ c.requires.pairs.0 c.args.predecessors.now c.args.successors.now c.requires.pairs.1 c.requires.pairs.2) c.index-j.result.now i (omega arith)

pub loop-k-init : goal.loop-k-init
loop-k-init c =
    ready_start (length c.args.predecessors.now) c.args.predecessors.now (record { queue = c.args.queue.now.items; left = c.args.left.now }) refl c.requires.left c.requires.each c.requires.inside

pub loop-k-preserved : goal.loop-k-preserved
loop-k-preserved c =
    let at : c.index-j.result.now ≡ number_at c.loop-k.queue.items c.loop-k.k = get_or_read c.loop-k.queue.items c.loop-k.k c.index-j.result.now (omega arith) c.index-j.ensures 0 in
    let low : number_at c.loop-k.queue.items c.loop-k.k < length c.args.predecessors.now
    = taken_inside (length c.args.predecessors.now) c.args.predecessors.now c.loop-k.k (record { queue = c.loop-k.queue.items; left = c.loop-k.left }) c.loop-k.invariant (omega arith) in
    let neighbours = neighbours_of _ c.requires.pairs.0 c.args.predecessors.now c.args.successors.now c.requires.pairs.1 c.requires.pairs.2 in
    let long : length c.loop-k.left ≡ length c.args.predecessors.now = c.loop-k.invariant.long in
    ready_more (length c.args.predecessors.now) c.requires.pairs.0 c.args.predecessors.now c.args.successors.now c.loop-k.k (record { queue = c.loop-k.queue.items; left = c.loop-k.left }) _
    neighbours c.loop-k.invariant (omega arith)
    (released_is (list_at c.args.successors.now c.index-j.result.now) (record { queue = c.loop-k.queue.items; left = c.loop-k.left }) (record { queue = c.take_one.new.queue.items; left = c.take_one.new.left }) (omega arith)
    (λ k l. let b : number_at (list_at c.args.successors.now c.index-j.result.now) k < length c.args.predecessors.now
    = succ_inside (length c.args.predecessors.now) c.requires.pairs.0 (record { predecessors = c.args.predecessors.now; successors = c.args.successors.now }) neighbours c.index-j.result.now k (omega arith) l in omega arith)
    (λ i. succ_few _ c.requires.pairs.0 _ neighbours c.index-j.result.now i (omega arith))
    c.in_ok-take_one.ensures.left c.in_ok-take_one.ensures.queue ∙ ap (λ (x : ℕ). released (list_at c.args.successors.now x) (record { queue = c.loop-k.queue.items; left = c.loop-k.left })) at)

pub returns-clause-order : goal.returns-clause-order
returns-clause-order c = λ e.
    ready_end (length c.args.predecessors.now) c.args.predecessors.now c.loop-k.k (record { queue = c.loop-k.queue.items; left = c.loop-k.left }) (omega arith) c.loop-k.invariant
