use Rattle.ci_explain.specs.Gitlab.{marks}
use Rattle.ci_explain.proofs.gitlab.begins_with_mark.Goals as goal

pub returns : goal.returns
unfolding marks
returns c = c.begins_with_one.ensures
