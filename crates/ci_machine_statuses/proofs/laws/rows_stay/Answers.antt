use Rattle.ci_machine_statuses.proofs.Stays.{stays}
use Rattle.ci_machine_statuses.proofs.laws.rows_stay.Goals as goal

pub returns : goal.returns
returns c = stays
