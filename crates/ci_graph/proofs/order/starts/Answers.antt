use Rattle.std.proofs.Common.{◌≡◌, arith}
use Rattle.std.proofs.lemmas.Grind.{common_steps}
use Rattle.ci_graph.proofs.Steps.{sources}
use Rattle.ci_graph.proofs.Queues.{starts_each, starts_inside}
use Rattle.ci_graph.proofs.order.starts.Goals as goal

pub returns-clause-each : goal.returns-clause-each
returns-clause-each c =
    let all : c.loop-j.queue.items ≡ sources 0 c.args.left.now = grind (arith, common_steps) in
    starts_each c.args.left.now c.loop-j.queue.items all

pub returns-clause-inside : goal.returns-clause-inside
returns-clause-inside c =
    let all : c.loop-j.queue.items ≡ sources 0 c.args.left.now = grind (arith, common_steps) in
    starts_inside c.args.left.now c.loop-j.queue.items all
