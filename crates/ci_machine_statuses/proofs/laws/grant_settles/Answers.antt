use Rattle.ci_machine.proofs.Keyed.{has_from_contains}
use Rattle.ci_machine_steps.proofs.Sound.{sound}
use Rattle.ci_machine_statuses.proofs.Grants.{granted}
use Rattle.ci_machine_statuses.proofs.laws.grant_settles.Goals as goal

pub returns : goal.returns
returns c = λ s board job attempt is_sound are has pending at_next its_job live. granted s board job attempt (sound s is_sound) are (has_from_contains job s.jobs has) pending at_next its_job live
