use Rattle.ci_machine_laws.proofs.Newest.{newest_told}
use Rattle.ci_machine_laws.proofs.reads.the_newest_pipelines_are_told.Goals as goal

pub returns : goal.returns
returns c = newest_told
