use Rattle.ci_machine_laws.proofs.Modes.{sets_mode, modes_stay}
use Rattle.ci_machine_laws.proofs.laws.a_mode_is_of_its_group_alone.Goals as goal

pub returns : goal.returns
returns c = record { set = sets_mode; stay = modes_stay }
