use Rattle.ci_machine_laws.proofs.Prelude.{refl}
use Rattle.ci_machine_laws.specs.Examples.{after}
use Rattle.ci_machine_laws.specs.ActExamples.{board_from, five, first_retried, retried_rows}
use Rattle.ci_machine_laws.proofs.Computed.{computed}
use Rattle.ci_machine_laws.proofs.laws.retry_examples.Goals as goal

pub returns-clause-retried : goal.returns-clause-retried
returns-clause-retried c = (board_from 1 retried_rows, computed (after first_retried five) (board_from 1 retried_rows) refl refl, refl)
