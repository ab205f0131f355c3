use Rattle.ci_explain.specs.Gitlab.{words}
use Rattle.ci_explain.proofs.gitlab.begins_with_word.Goals as goal

pub returns : goal.returns
unfolding words
returns c = c.begins_with_one.ensures
