use Rattle.ci_config.proofs.Alike.{one-answer}
use Rattle.ci_config.proofs.laws.has_one_answer.Goals as goal

pub returns : goal.returns
returns c = one-answer
