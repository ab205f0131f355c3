use Rattle.ci_machine.proofs.Keyed.{has_from_contains}
use Rattle.ci_machine_steps.proofs.Sound.{sound}
use Rattle.ci_machine_statuses.proofs.ActPlaces.{one_acted}
use Rattle.ci_machine_statuses.proofs.laws.acted_jobs_are_asked.Goals as goal

pub returns-clause-one : goal.returns-clause-one
returns-clause-one c = λ act s board job is_sound has. one_acted act s board job (sound s is_sound) (has_from_contains job s.jobs has)
