use Rattle.ci_machine.proofs.Keyed.{has_from_contains}
use Rattle.ci_machine_steps.proofs.Sound.{sound}
use Rattle.ci_machine_statuses.proofs.HeldGrants.{granted}
use Rattle.ci_machine_statuses.proofs.holder_laws.grant_is_indexed.Goals as goal

pub returns : goal.returns
returns c = λ k job attempt is_sound are indexes has pending free at_next its_job live.
    granted k job attempt (sound k.state is_sound) are indexes (has_from_contains job k.state.jobs has) pending free at_next its_job live
