use Rattle.ci_explain.proofs.OneLine.{no-x8}
use Rattle.ci_explain.proofs.check.laws.blames_only_patterns.Goals as goal

pub returns : goal.returns
returns c = no-x8 c.has_one_tree.ensures c.answers_once_without_patterns.ensures c.means_no_x8.ensures
