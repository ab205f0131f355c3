use Rattle.ci_machine_laws.proofs.ShownAgain.{job_again, pipeline_again, creation_again}
use Rattle.ci_machine_laws.proofs.outcome.an_act_is_shown_again.Goals as goal

pub returns : goal.returns
returns c = let law = c.one_assignment.ensures in record { job = job_again law; pipeline = pipeline_again law; made = creation_again law }
