use Rattle.ci_machine_steps.proofs.Sound.{sound}
use Rattle.ci_machine_statuses.proofs.Creations.{made}
use Rattle.ci_machine_statuses.proofs.laws.created_is_made.Goals as goal

pub returns : goal.returns
returns c = λ s new given now text laid c is_sound lays is. made s new given now text laid (sound s is_sound) lays c is
