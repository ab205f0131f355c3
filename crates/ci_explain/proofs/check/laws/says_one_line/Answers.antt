use Rattle.ci_explain.proofs.OneLine.{one-line}
use Rattle.ci_explain.proofs.check.laws.says_one_line.Goals as goal

pub returns : goal.returns
returns c = one-line c.has_one_tree.ensures c.has_not_both.ensures c.has_one_fault.ensures c.has_one_answer.ensures
