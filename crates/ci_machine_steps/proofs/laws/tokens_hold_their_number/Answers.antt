use Rattle.ci_machine_steps.proofs.Tokens.{same_number}
use Rattle.ci_machine_steps.proofs.laws.tokens_hold_their_number.Goals as goal

pub returns : goal.returns
returns c = same_number
