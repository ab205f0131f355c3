use Rattle.ci_cli_words.proofs.Values.{nothing}
use Rattle.ci_cli_words.proofs.asked.report_kind_in.Goals as goal

pub returns-in_err-kind : goal.returns-in_err-kind
returns-in_err-kind c = rw (nothing _ c.in_err-kind.ensures) c.from_residual.ensures
