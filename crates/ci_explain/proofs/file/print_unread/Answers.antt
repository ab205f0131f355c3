use Rattle.ci_explain.proofs.Saying.{refusal-is-written}
use Rattle.ci_explain.proofs.file.print_unread.Goals as goal

pub returns-then-eq : goal.returns-then-eq
returns-then-eq g c =
    refusal-is-written c.args.word.now (g.W.Write.contents c.args.out.now) (g.W.Write.contents c.print_verdict.new.out) c.print_verdict.result c.print_verdict.ensures
