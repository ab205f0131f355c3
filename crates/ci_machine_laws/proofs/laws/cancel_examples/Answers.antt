use Rattle.ci_machine_laws.proofs.Prelude.{refl}
use Rattle.ci_machine_laws.specs.Examples.{after}
use Rattle.ci_machine_laws.specs.ActExamples.{board_from, four, all_cancelled, cancelled_rows, run_cancelled, run_cancelled_rows}
use Rattle.ci_machine_laws.proofs.Computed.{computed}
use Rattle.ci_machine_laws.proofs.laws.cancel_examples.Goals as goal

pub returns-clause-all : goal.returns-clause-all
returns-clause-all c = (board_from 1 cancelled_rows, computed (after all_cancelled four) (board_from 1 cancelled_rows) refl refl, refl)

pub returns-clause-one : goal.returns-clause-one
returns-clause-one c = (board_from 1 run_cancelled_rows, computed (after run_cancelled four) (board_from 1 run_cancelled_rows) refl refl, refl)
