use Rattle.std.proofs.Common.{◌≡◌, arith}
use Rattle.std.proofs.lemmas.Grind.{common_steps}
use Rattle.ci_graph.proofs.Steps.{Progress, released}
use Rattle.ci_graph.proofs.Queues.{released_gives}
use Rattle.ci_graph.proofs.order.release.Goals as goal

pub returns-clause-left : goal.returns-clause-left
returns-clause-left c =
    let t : Progress = record { queue = c.args.queue.now.items; left = c.args.left.now } in
    let after : Progress = record { queue = c.loop-k.queue.items; left = c.loop-k.left } in
    let all : after ≡ released c.args.successors.now t = grind (arith, common_steps) in
    (released_gives c.args.successors.now t after c.requires.inside c.requires.each_once all).0

pub returns-clause-queue : goal.returns-clause-queue
returns-clause-queue c =
    let t : Progress = record { queue = c.args.queue.now.items; left = c.args.left.now } in
    let after : Progress = record { queue = c.loop-k.queue.items; left = c.loop-k.left } in
    let all : after ≡ released c.args.successors.now t = grind (arith, common_steps) in
    (released_gives c.args.successors.now t after c.requires.inside c.requires.each_once all).1
