use Rattle.ci_machine_steps.proofs.Details.{keywords_print}
use Rattle.ci_machine_steps.proofs.laws.details_print_faults.Goals as goal

pub returns-clause-keywords : goal.returns-clause-keywords
returns-clause-keywords c = keywords_print
