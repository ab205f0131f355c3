use Rattle.ci_machine_statuses.proofs.Joint.{same_facts}
use Rattle.ci_machine_statuses.proofs.laws.same_facts_keep_rows.Goals as goal

pub returns : goal.returns
returns c = same_facts
