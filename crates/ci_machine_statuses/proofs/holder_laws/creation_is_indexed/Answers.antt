use Rattle.ci_machine_steps.proofs.Sound.{sound}
use Rattle.ci_machine_statuses.proofs.Creations.{created}
use Rattle.ci_machine_statuses.proofs.HeldCreations.{creation_indexed}
use Rattle.ci_machine_statuses.proofs.holder_laws.creation_is_indexed.Goals as goal

pub returns : goal.returns
returns c = λ k new given now text laid made rows is_sound are indexes lays is keys.
    let all = sound k.state is_sound in creation_indexed k all are indexes made (created k.state new given now text laid all lays made is) rows keys
