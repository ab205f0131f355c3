use Rattle.ci_machine.proofs.Keyed.{has_from_contains}
use Rattle.ci_machine_steps.proofs.Sound.{sound}
use Rattle.ci_machine_statuses.proofs.HeldActs.{act_indexed}
use Rattle.ci_machine_statuses.proofs.holder_laws.acts_are_indexed.Goals as goal

pub returns : goal.returns
returns c = λ act only k p jobs needs attempts rows o before after is_sound are indexes has records outcome was is.
    act_indexed act only k p jobs needs attempts rows o before after (sound k.state is_sound) are indexes (has_from_contains p k.state.pipelines has) records outcome was is
