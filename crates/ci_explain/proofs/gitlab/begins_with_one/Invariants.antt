use Rattle.std.proofs.Common.{◌≡◌, drop}
use Rattle.ci_config.specs.Prelude.{words_view}
use Rattle.ci_explain.specs.Gitlab.{begins_with_one}
use Rattle.ci_explain.proofs.gitlab.begins_with_one.Given as goal

abbrev pub invariant-loop-beginning : goal.invariant-loop-beginning
invariant-loop-beginning l = begins_with_one (words_view (drop l.beginning-index l.beginnings)) l.fn.text ≡ begins_with_one (words_view l.beginnings) l.fn.text
