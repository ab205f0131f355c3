use Rattle.ci_cli_words.proofs.Columns.{right_is, left_is}
use Rattle.ci_cli_words.proofs.report.laws.fills_columns.Goals as goal

pub returns-clause-right : goal.returns-clause-right
returns-clause-right c = right_is

pub returns-clause-left : goal.returns-clause-left
returns-clause-left c = left_is
