use Rattle.ci_machine_laws.proofs.Prelude.{refl}
use Rattle.ci_machine_laws.specs.Examples.{after}
use Rattle.ci_machine_laws.specs.ActExamples.{board_from, two, hand_played, played_rows, succeeded, hand_retried}
use Rattle.ci_machine_laws.proofs.Computed.{computed}
use Rattle.ci_machine_laws.proofs.laws.play_examples.Goals as goal

pub returns-clause-played : goal.returns-clause-played
returns-clause-played c = (board_from 1 played_rows, computed (after hand_played two) (board_from 1 played_rows) refl refl, refl)

pub returns-clause-retried : goal.returns-clause-retried
returns-clause-retried c = (board_from 1 played_rows, computed (after hand_retried succeeded) (board_from 1 played_rows) refl refl, refl)
