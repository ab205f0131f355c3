use Rattle.std.proofs.Common.{◌∙◌, inr, slice_get}
use Rattle.ci_http_peers.proofs.Turns.{answers_here, begins_goes_on, begins_same_but, finishes_goes_on, finishes_same_but, replied, same_but_twice}
use Rattle.ci_http_peers.proofs.hall.Hall.step.Goals as goal

pub returns-in_err-answer-in-Whole-clause-once : goal.returns-in_err-answer-in-Whole-clause-once
returns-in_err-answer-in-Whole-clause-once g c =
    let (reads, chair, at, all) = c.call.ensures.whole c.in-Whole.is in
    let (text, said, rest) = c.answer.ensures.answers chair at in
    inr (reads, chair, text, (all, said))

pub returns-in_err-answer-in-Whole-clause-whose : goal.returns-in_err-answer-in-Whole-clause-whose
returns-in_err-answer-in-Whole-clause-whose g c =
    let (reads, chair, at, all) = c.call.ensures.whole c.in-Whole.is in
    let (text, said, rest) = c.answer.ensures.answers chair at in
    answers_here (g.A.Answerer.says_due c.args.answerer.now) g.W.Wire.receives g.W.Wire.sends (g.A.Answerer.answers c.args.answerer.now)
    (slice_get c.args.self.now.peers.items c.args.place) (slice_get c.args.self.now.chairs.items c.args.place) (slice_get c.call.new.self.chairs.items c.args.place) c.call.result
    chair text c.args.subject.now c.answer.new.subject c.in-Whole.is reads c.call.ensures.none at c.call.ensures.calls said

pub returns-in_ok-answer-in-Whole : goal.returns-in_ok-answer-in-Whole
returns-in_ok-answer-in-Whole g c =
    let old = c.args.self.now in
    let mid = c.call.new.self in
    let new = c.answer.new.self in
    let (reads, chair, at, all) = c.call.ensures.whole c.in-Whole.is in
    let (text, said, replies) = c.in_ok-answer-in-Whole.ensures.answers chair at in
    let never = replied c.args.now mid.patience c.args.place chair text mid.peers.items mid.chairs.items new.peers.items new.chairs.items replies in
    record {
      peers = begins_same_but c.args.now mid.patience c.args.place old.peers.items mid.peers.items new.peers.items c.call.ensures.peers c.answer.ensures.peers;
      chairs = same_but_twice c.args.place old.chairs.items mid.chairs.items new.chairs.items c.call.ensures.chairs c.answer.ensures.chairs;
      here = begins_goes_on c.args.now old.patience mid.patience c.args.place old.peers.items mid.peers.items new.peers.items c.call.ensures.peers c.call.ensures.patience reads c.answer.ensures.peers;
      once = inr (reads, chair, text, (all, said));
      whose = answers_here (g.A.Answerer.says_due c.args.answerer.now) g.W.Wire.receives g.W.Wire.sends (g.A.Answerer.answers c.args.answerer.now)
          (slice_get old.peers.items c.args.place) (slice_get old.chairs.items c.args.place) (slice_get mid.chairs.items c.args.place) c.call.result
          chair text c.args.subject.now c.answer.new.subject c.in-Whole.is reads c.call.ensures.none at c.call.ensures.calls said;
      last = inr (reads, never, chair, text, (all, said));
      patience = c.answer.ensures.patience ∙ c.call.ensures.patience;
    }

pub returns-in-Went-clause-peers : goal.returns-in-Went-clause-peers
returns-in-Went-clause-peers g c =
    finishes_same_but c.args.now c.args.place c.args.self.now.peers.items c.call.new.self.peers.items c.end_reply.new.self.peers.items c.call.ensures.peers c.end_reply.ensures.peers

pub returns-in-Went-clause-here : goal.returns-in-Went-clause-here
returns-in-Went-clause-here g c =
    finishes_goes_on c.args.now c.args.self.now.patience c.args.place c.args.self.now.peers.items c.call.new.self.peers.items c.end_reply.new.self.peers.items c.call.ensures.peers
    (c.call.ensures.went c.in-Went.is) c.end_reply.ensures.peers
