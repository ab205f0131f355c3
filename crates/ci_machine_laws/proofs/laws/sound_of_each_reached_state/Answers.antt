use Rattle.ci_machine_laws.proofs.Numbers.{sound_reached}
use Rattle.ci_machine_laws.proofs.laws.sound_of_each_reached_state.Goals as goal

pub returns : goal.returns
returns c = sound_reached
