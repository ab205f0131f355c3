use Rattle.std.proofs.Common.{◌≡◌, ◌<◌, suc, ap, arith, length}
use Rattle.ci_graph.proofs.Groups.{rises_on, rising_distinct}
use Rattle.ci_graph.proofs.positions.Positions.rises.Goals as goal

pub loop-k-preserved : goal.loop-k-preserved
loop-k-preserved c =
    rises_on c.args.self.now c.self.inside.positions.items c.loop-k.k c.index-in-loop-k.result.now c.index.result.now c.self.view_is (omega arith) (omega arith)
    c.index.ensures c.index-in-loop-k.ensures (omega arith) c.loop-k.invariant

pub returns : goal.returns
returns c = λ _.
    let long : length c.self.inside.positions.items ≡ length c.args.self.now = ap length c.self.view_is in
    rising_distinct c.args.self.now (λ m (l : suc m < length c.args.self.now). c.loop-k.invariant m (omega arith))
