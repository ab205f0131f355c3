use Rattle.ci_values.proofs.Ids.{id_is, id_names}
use Rattle.ci_values.proofs.laws.a_number_has_one_text.Goals as goal

pub returns-clause-named : goal.returns-clause-named
returns-clause-named c = id_is

pub returns-clause-names : goal.returns-clause-names
returns-clause-names c = id_names
