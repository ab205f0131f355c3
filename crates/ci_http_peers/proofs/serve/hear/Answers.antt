use Rattle.std.proofs.Common.{slice_get}
use Rattle.ci_http_peers.proofs.Turns.{as_answers, more_answers}
use Rattle.ci_http_peers.proofs.serve.hear.Goals as goal

pub returns-in-Err : goal.returns-in-Err
returns-in-Err g c =
    let answers = g.A.Answerer.answers c.args.answerer.now in
    let mid = c.loop-event.subject in
    more_answers answers c.args.subject.now mid c.go_on.new.subject c.loop-event.invariant
    (as_answers _ answers (slice_get c.loop-event.hall.peers.items c.token-token.result.0) mid c.go_on.new.subject c.go_on.ensures.answered)

pub loop-event-preserved : goal.loop-event-preserved
loop-event-preserved g c =
    let answers = g.A.Answerer.answers c.args.answerer.now in
    let mid = c.loop-event.subject in
    more_answers answers c.args.subject.now mid c.go_on.new.subject c.loop-event.invariant
    (as_answers _ answers (slice_get c.loop-event.hall.peers.items c.token-token.result.0) mid c.go_on.new.subject c.go_on.ensures.answered)
