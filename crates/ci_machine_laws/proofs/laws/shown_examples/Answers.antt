use Rattle.ci_machine_laws.proofs.Prelude.{refl}
use Rattle.ci_machine_steps.specs.Prelude.{Pending, Canceled}
use Rattle.ci_machine_laws.specs.Examples.{after}
use Rattle.ci_machine_laws.specs.ShownExamples.{three_rows, oldest, all_wait, second_cancelled, first_cancelled, third_done, third_retried}
use Rattle.ci_machine_laws.proofs.Computed.{computed}
use Rattle.ci_machine_laws.proofs.laws.shown_examples.Goals as goal

pub returns-clause-second : goal.returns-clause-second
returns-clause-second c = (three_rows Pending Canceled Pending, computed (after second_cancelled oldest) (three_rows Pending Canceled Pending) refl refl, refl)

pub returns-clause-first : goal.returns-clause-first
returns-clause-first c = (three_rows Canceled Pending Pending, computed (after first_cancelled oldest) (three_rows Canceled Pending Pending) refl refl, refl)

pub returns-clause-retried : goal.returns-clause-retried
returns-clause-retried c = (all_wait, computed (after third_retried third_done) all_wait refl refl, refl)
