use Rattle.ci_machine_laws.proofs.NoJob.{no_job, are_reasons}
use Rattle.ci_machine_laws.proofs.idle.no_runner_is_left_without_its_job.Goals as goal

pub returns : goal.returns
returns c = record { none = no_job c.one_assignment.ensures; reasons = are_reasons c.one_assignment.ensures }
