use Rattle.std.proofs.Common.{refl}
use Rattle.ci_board.proofs.Computed.{two, three, five}
use Rattle.ci_board.proofs.examples.status_examples.Goals as goal

pub returns-clause-two_stages : goal.returns-clause-two_stages
returns-clause-two_stages c = two _ refl refl

pub returns-clause-no_needs : goal.returns-clause-no_needs
returns-clause-no_needs c = three _ refl refl refl

pub returns-clause-after_failure : goal.returns-clause-after_failure
returns-clause-after_failure c = five _ refl refl refl refl refl

pub returns-clause-after_retry : goal.returns-clause-after_retry
returns-clause-after_retry c = five _ refl refl refl refl refl
