use Rattle.std.proofs.Common.{◌≡◌, ℕ, List, length, ap, arith, slice_index}
use Rattle.ci_board.proofs.Passes.{pass_more, graph_more}
use Rattle.ci_board.proofs.pass.pass.Goals as goal

pub loop-i-preserved : goal.loop-i-preserved
loop-i-preserved g c =
    let long : length c.order-count.result.now ≡ length c.args.graph.now.order = ap length c.order-count.ensures.order in (
      graph_more c.args.graph.now c.loop-i.graph c.step.new.graph c.loop-i.invariant.0 c.step.ensures.graph,
      pass_more c.args.graph.now c.loop-i.graph c.args.fresh.now c.loop-i.i (slice_index c.order.result.now c.loop-i.i) _ _ _
          c.loop-i.invariant.0 (omega arith) (ap (λ (xs : List ℕ). slice_index xs c.loop-i.i) c.order.ensures.order) c.loop-i.invariant.1 c.step.ensures.step,
    )
