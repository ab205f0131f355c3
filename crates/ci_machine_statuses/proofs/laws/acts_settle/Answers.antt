use Rattle.ci_machine_steps.proofs.Sound.{sound}
use Rattle.ci_machine_statuses.proofs.ActPlaces.{act_board, act_rows}
use Rattle.ci_machine_statuses.proofs.laws.acts_settle.Goals as goal

pub returns-clause-settle : goal.returns-clause-settle
returns-clause-settle c = λ act s board p test rows is_sound are long right. act_board s act p test rows (sound s is_sound) long right board are

pub returns-clause-rows : goal.returns-clause-rows
returns-clause-rows c = λ act s p test rows is_sound long right. act_rows s act p test rows (sound s is_sound) long right
