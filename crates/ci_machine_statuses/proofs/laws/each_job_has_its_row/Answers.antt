use Rattle.ci_machine.proofs.Keyed.{has_from_contains}
use Rattle.ci_machine_steps.proofs.Sound.{sound}
use Rattle.ci_machine_statuses.proofs.RowPuts.{its_row}
use Rattle.ci_machine_statuses.proofs.Joint.{board_rises}
use Rattle.ci_machine_statuses.proofs.PendingRows.{its_row_found}
use Rattle.ci_machine_statuses.proofs.laws.each_job_has_its_row.Goals as goal

pub returns-clause-row : goal.returns-clause-row
returns-clause-row c = λ s board job are has. its_row_found s board job are (has_from_contains job s.jobs has)

pub returns-clause-found : goal.returns-clause-found
returns-clause-found c = λ s board r is_sound are has. its_row 0 board r (board_rises s board (sound s is_sound) are) (has_from_contains r board has)
