use Rattle.ci_machine_laws.proofs.ReadGroups.{groups_told}
use Rattle.ci_machine_laws.proofs.reads.the_groups_of_a_project_are_told.Goals as goal

pub returns : goal.returns
returns c = groups_told
