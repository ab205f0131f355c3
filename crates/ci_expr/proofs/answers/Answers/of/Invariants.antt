use Rattle.std.proofs.Common.{take}
use Rattle.ci_expr.specs.Prelude.{AreAnswered, looks_view}
use Rattle.ci_expr.proofs.answers.Answers.of.Given as goal

abbrev pub invariant-loop-look : goal.invariant-loop-look
invariant-loop-look l = AreAnswered l.answers (looks_view (take l.look-index l.looks))
