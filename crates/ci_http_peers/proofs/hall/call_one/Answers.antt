use Rattle.std.proofs.Common.{ap, subst, sym}
use Rattle.ci_http_peers.specs.declared.peer.Among.TheVariants.{Writing}
use Rattle.ci_http_peers.specs.Peer.{is_among}
use Rattle.ci_http_peers.specs.Turns.{CallsAt}
use Rattle.ci_http_peers.proofs.hall.call_one.Goals as goal

pub returns-in-Reading-clause-calls : goal.returns-in-Reading-clause-calls
returns-in-Reading-clause-calls g c =
    subst (λ s. CallsAt (g.A.Answerer.says_due c.args.answerer.now) g.W.Wire.receives g.W.Wire.sends s c.args.chair.now c.read.new.self c.read.result) (sym c.in-Reading.is)
    (c.read.ensures.0, c.read.new.scratch, c.read.ensures.1, c.read.ensures.2)

pub returns-in-Writing-clause-calls : goal.returns-in-Writing-clause-calls
returns-in-Writing-clause-calls g c =
    subst (λ s. CallsAt (g.A.Answerer.says_due c.args.answerer.now) g.W.Wire.receives g.W.Wire.sends s c.args.chair.now c.write.new.self c.write.result) (sym c.in-Writing.is) (c.write.ensures.went, c.write.ensures.sends, c.write.ensures.past)

pub returns-in-Writing-clause-went : goal.returns-in-Writing-clause-went
returns-in-Writing-clause-went g c = λ is. ap (is_among Writing) c.in-Writing.is

pub returns-in-Ending-clause-calls : goal.returns-in-Ending-clause-calls
returns-in-Ending-clause-calls g c =
    subst (λ s. CallsAt (g.A.Answerer.says_due c.args.answerer.now) g.W.Wire.receives g.W.Wire.sends s c.args.chair.now c.drain.new.self c.drain.result) (sym c.in-Ending.is)
    (c.drain.ensures.0, c.drain.new.scratch, c.drain.ensures.1, c.drain.ensures.2)
