use Rattle.ci_memory_queue.proofs.Sets.{take_keeps}
use Rattle.ci_memory_queue.proofs.lines.first.take_out.Goals as goal

pub returns-clause-others : goal.returns-clause-others
returns-clause-others c = λ n other. take_keeps c.args.jobs.now.keys c.remove.new.self.keys c.args.job n c.remove.ensures.keys other
