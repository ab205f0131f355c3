use Rattle.ci_machine_steps.proofs.Sound.{sound}
use Rattle.ci_machine_statuses.proofs.ActLines.{claims_after}
use Rattle.ci_machine_statuses.proofs.laws.acts_leave_lines.Goals as goal

pub returns : goal.returns
returns c = λ act only s board pipeline o is_sound outcome. claims_after act only s board pipeline o (sound s is_sound) outcome
