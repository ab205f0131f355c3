use Rattle.ci_machine_steps.proofs.Sound.{sound}
use Rattle.ci_machine_statuses.proofs.Creations.{created}
use Rattle.ci_machine_statuses.proofs.CreationLines.{created_rows, created_claims}
use Rattle.ci_machine_statuses.proofs.laws.creation_is_shown.Goals as goal

pub returns-clause-rows : goal.returns-clause-rows
returns-clause-rows c = λ s board new given now text laid made rows is_sound are lays is keys.
    let all = sound s is_sound in created_rows s all made (created s new given now text laid all lays made is) board are rows keys

pub returns-clause-claims : goal.returns-clause-claims
returns-clause-claims c = λ s board new given now text laid made rows is_sound are lays is keys.
    let all = sound s is_sound in created_claims s all made (created s new given now text laid all lays made is) board are rows keys
