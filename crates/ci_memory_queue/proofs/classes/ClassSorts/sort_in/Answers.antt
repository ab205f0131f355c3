use Rattle.std.proofs.Common.{arith}
use Rattle.ci_memory_queue.proofs.Eligible.{sorted_raised}
use Rattle.ci_memory_queue.proofs.classes.ClassSorts.sort_in.Goals as goal

-- those that are in classes stay there
pub returns-clause-keeps : goal.returns-clause-keeps
returns-clause-keeps g c k n w =
    sorted_raised k.state c.args.classes.now.items c.put_in.new.classes.items c.args.newest_pipeline.now c.max.result n (omega (arith, c.max.ensures)) (λ asks asked. c.put_in.ensures.keeps asks n) w
