use Rattle.ci_config.proofs.Owns.{no-x8}
use Rattle.ci_config.proofs.laws.means_no_x8.Goals as goal

pub returns : goal.returns
returns c = no-x8 (λ text. (c.computes_the_meaning.ensures text).0)
