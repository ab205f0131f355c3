use Rattle.std.proofs.Common.{refl}
use Rattle.ci_board.proofs.examples.edge_examples.Goals as goal

pub returns-clause-short_chain : goal.returns-clause-short_chain
returns-clause-short_chain c = refl

pub returns-clause-long_chain : goal.returns-clause-long_chain
returns-clause-long_chain c = refl
