use Rattle.std.proofs.Common.{refl, inl, inr}
use Rattle.ci_memory_queue.proofs.Sets.{put_has}
use Rattle.ci_memory_queue.proofs.classes.put.Goals as goal

pub returns-clause-there : goal.returns-clause-there
returns-clause-there c = put_has c.args.jobs.now.keys c.insert.new.self.keys c.args.job c.args.job c.in_ok-insert.ensures.keys (inl refl)

pub returns-clause-keeps : goal.returns-clause-keeps
returns-clause-keeps c = λ n has. put_has c.args.jobs.now.keys c.insert.new.self.keys c.args.job n c.in_ok-insert.ensures.keys (inr has)
