use Rattle.ci_machine_laws.proofs.EachNext.{unchanged}
use Rattle.ci_machine_laws.proofs.laws.a_refusal_changes_nothing.Goals as goal

pub returns : goal.returns
returns c = unchanged
