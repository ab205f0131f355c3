use Rattle.ci_cli_words.proofs.Values.{nothing}
use Rattle.ci_cli_words.proofs.asked.log_in.Goals as goal

pub returns-in-None : goal.returns-in-None
returns-in-None c = rw (nothing _ c.in-None.ensures)
