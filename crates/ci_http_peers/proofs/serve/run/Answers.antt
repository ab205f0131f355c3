use Rattle.ci_http_peers.proofs.Turns.{more_answers}
use Rattle.ci_http_peers.proofs.serve.run.Goals as goal

pub returns-in_err-hear : goal.returns-in_err-hear
returns-in_err-hear g c = more_answers (g.A.Answerer.answers c.args.answerer.now) c.args.subject.now c.loop.subject c.hear.new.subject c.loop.invariant c.hear.ensures

pub returns-in_err-accept_some : goal.returns-in_err-accept_some
returns-in_err-accept_some g c =
    let answers = g.A.Answerer.answers c.args.answerer.now in
    let mid = c.hear.new.subject in
    more_answers answers c.args.subject.now mid c.accept_some.new.subject (more_answers answers c.args.subject.now c.loop.subject mid c.loop.invariant c.hear.ensures) c.accept_some.ensures

pub returns-in_err-now-2 : goal.returns-in_err-now-2
returns-in_err-now-2 g c =
    let answers = g.A.Answerer.answers c.args.answerer.now in
    let mid = c.hear.new.subject in
    more_answers answers c.args.subject.now mid c.accept_some.new.subject (more_answers answers c.args.subject.now c.loop.subject mid c.loop.invariant c.hear.ensures) c.accept_some.ensures

pub loop-preserved : goal.loop-preserved
loop-preserved g c =
    let answers = g.A.Answerer.answers c.args.answerer.now in
    let mid = c.hear.new.subject in
    more_answers answers c.args.subject.now mid c.accept_some.new.subject (more_answers answers c.args.subject.now c.loop.subject mid c.loop.invariant c.hear.ensures) c.accept_some.ensures
