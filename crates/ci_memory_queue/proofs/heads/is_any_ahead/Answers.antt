use Rattle.ci_memory_queue.proofs.Ones.{up_to_more}
use Rattle.ci_memory_queue.proofs.heads.is_any_ahead.Goals as goal

-- where the least isn't ahead, none is
pub returns-in-Some : goal.returns-in-Some
returns-in-Some c = λ e job has. up_to_more c.args.before.now c.in-Some.first job (c.in-Some.ensures.least job has) (c.is_ahead.ensures.behind e)
