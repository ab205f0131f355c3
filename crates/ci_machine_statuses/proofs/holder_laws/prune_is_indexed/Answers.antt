use Rattle.ci_machine.proofs.Keyed.{has_from_contains}
use Rattle.ci_machine_steps.proofs.Sound.{sound}
use Rattle.ci_machine_statuses.proofs.Pruning.{prune_indexed}
use Rattle.ci_machine_statuses.proofs.holder_laws.prune_is_indexed.Goals as goal

pub returns : goal.returns
returns c = λ k p is_sound are indexes has finished. prune_indexed k p (sound k.state is_sound) are indexes (has_from_contains p k.state.pipelines has) finished
