use Rattle.std.proofs.Common.{arith}
use Rattle.ci_memory_queue.proofs.Covered.{sorted_raised}
use Rattle.ci_memory_queue.proofs.lines.groups.LineSorts.sort_in.Goals as goal

-- those that are in lines stay there
pub returns-clause-keeps : goal.returns-clause-keeps
returns-clause-keeps g c k n w =
    sorted_raised k c.args.lines.now.items c.put_if_grouped.new.lines.items c.args.newest_pipeline.now c.max.result n (omega (arith, c.max.ensures)) c.put_if_grouped.ensures.keeps w
