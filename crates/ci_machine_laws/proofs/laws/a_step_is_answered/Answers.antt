use Rattle.ci_machine_laws.proofs.EachNext.{answered}
use Rattle.ci_machine_laws.proofs.laws.a_step_is_answered.Goals as goal

pub returns : goal.returns
returns c = answered
