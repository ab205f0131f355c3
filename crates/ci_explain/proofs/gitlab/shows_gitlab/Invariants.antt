use Rattle.std.proofs.Common.{◌≡◌, true, drop}
use Rattle.ci_explain.specs.Gitlab.{shows_from}
use Rattle.ci_explain.proofs.gitlab.shows_gitlab.Given as goal

abbrev pub invariant-loop-i : goal.invariant-loop-i
invariant-loop-i l = shows_from l.may_be_key (drop l.i l.bytes) ≡ shows_from true l.bytes
