use Rattle.std.proofs.Common.{◌≡◌, arith}
use Rattle.std.proofs.lemmas.Grind.{common_steps}
use Rattle.ci_board.specs.Prelude.{differing}
use Rattle.ci_board.proofs.Exact.{answer_of}
use Rattle.ci_board.proofs.changes.fill.Goals as goal

pub returns-clause-exact : goal.returns-clause-exact
returns-clause-exact c =
    let all : c.loop-j.into.items ≡ differing 0 c.args.before.now c.args.after.now = grind (arith, common_steps) in
    answer_of c.loop-j.into.items c.args.before.now c.args.after.now c.requires.long all
