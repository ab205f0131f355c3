use Rattle.ci_machine_steps.proofs.Sound.{sound}
use Rattle.ci_machine_statuses.proofs.Loaded.{in_between}
use Rattle.ci_machine_statuses.proofs.load.range_of.Goals as goal

pub returns-clause-within : goal.returns-clause-within
returns-clause-within c = λ s pipeline is_sound are. in_between s pipeline c.args.jobs.now c.index-jobs-0.result c.index-jobs-jobs.result (sound s is_sound) are
