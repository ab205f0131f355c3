use Rattle.ci_machine_steps.proofs.Sound.{sound}
use Rattle.ci_machine_statuses.proofs.Joint.{settled}
use Rattle.ci_machine_statuses.proofs.laws.differing_rows_settle.Goals as goal

pub returns : goal.returns
returns c = λ s t board pipeline rows is_sound are within long right. settled s t board pipeline rows (sound s is_sound) are within long right
