use Rattle.std.proofs.Common.{◌≡◌, false, take}
use Rattle.ci_cli_words.specs.Words.{is_among, pairs}
use Rattle.ci_cli_words.proofs.variables.is_among.Given as goal

abbrev pub invariant-loop-variable : goal.invariant-loop-variable
invariant-loop-variable l = is_among (pairs (take l.variable-index l.variables)) l.name ≡ false
