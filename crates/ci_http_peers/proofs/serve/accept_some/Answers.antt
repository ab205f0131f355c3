use Rattle.ci_http_peers.proofs.Turns.{more_answers}
use Rattle.ci_http_peers.proofs.serve.accept_some.Goals as goal

pub returns-in-Err : goal.returns-in-Err
returns-in-Err g c = more_answers (g.A.Answerer.answers c.args.answerer.now) c.args.subject.now c.loop.subject c.admit.new.subject c.loop.invariant c.admit.ensures.answered

pub loop-preserved : goal.loop-preserved
loop-preserved g c = more_answers (g.A.Answerer.answers c.args.answerer.now) c.args.subject.now c.loop.subject c.admit.new.subject c.loop.invariant c.admit.ensures.answered
