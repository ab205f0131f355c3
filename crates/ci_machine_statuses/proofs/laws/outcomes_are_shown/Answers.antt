use Rattle.ci_machine.proofs.Keyed.{has_from_contains}
use Rattle.ci_machine_steps.proofs.Sound.{sound}
use Rattle.ci_machine_statuses.proofs.ActShows.{shows_job, shows_pipeline}
use Rattle.ci_machine_statuses.proofs.laws.outcomes_are_shown.Goals as goal

pub returns-clause-job : goal.returns-clause-job
returns-clause-job c = λ act s board job o is_sound has permitted outcome. shows_job act s board job o (sound s is_sound) (has_from_contains job s.jobs has) permitted outcome

pub returns-clause-pipeline : goal.returns-clause-pipeline
returns-clause-pipeline c = λ act s board p o is_sound outcome. shows_pipeline act s board p o (sound s is_sound) outcome
