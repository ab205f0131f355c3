use Rattle.ci_machine_steps.proofs.Sound.{sound}
use Rattle.ci_machine_statuses.proofs.PendingRows.{rows_queue}
use Rattle.ci_machine_statuses.proofs.laws.the_queue_is_its_rows.Goals as goal

pub returns : goal.returns
returns c = λ s board is_sound are. rows_queue s board (sound s is_sound) are
