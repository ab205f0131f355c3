use Rattle.std.proofs.Common.{◌∙◌, inl, subst, slice_get}
use Rattle.ci_http_peers.specs.Turns.{GoesOn}
use Rattle.ci_http_peers.proofs.Turns.{answers_last_more, answers_once, answers_once_more, goes_on_more, gone_at, others_leave, same_but_twice, unheard_none}
use Rattle.ci_http_peers.proofs.hall.Hall.go_on.Goals as goal

pub returns-in_err-step-clause-answered : goal.returns-in_err-step-clause-answered
returns-in_err-step-clause-answered g c =
    answers_once_more g.row.W.Denot (g.A.Answerer.answers c.args.answerer.now) c.args.now c.args.self.now.patience
    (slice_get c.args.self.now.peers.items c.args.place) (slice_get c.loop.self.peers.items c.args.place) c.args.subject.now c.loop.subject c.step.new.subject
    c.loop.invariant.here c.loop.invariant.answered c.step.ensures.once

pub returns-in-Waits-clause-answered : goal.returns-in-Waits-clause-answered
returns-in-Waits-clause-answered g c =
    answers_once_more g.row.W.Denot (g.A.Answerer.answers c.args.answerer.now) c.args.now c.args.self.now.patience
    (slice_get c.args.self.now.peers.items c.args.place) (slice_get c.loop.self.peers.items c.args.place) c.args.subject.now c.loop.subject c.step.new.subject
    c.loop.invariant.here c.loop.invariant.answered c.step.ensures.once

pub returns-in-Over : goal.returns-in-Over
returns-in-Over g c =
    let old = c.args.self.now in
    let mid = c.step.new.self in
    let left = c.leave.ensures in
    record {
      others = others_leave c.args.place old.peers.items mid.peers.items c.leave.new.self.peers.items old.chairs.items mid.chairs.items c.leave.new.self.chairs.items
          (same_but_twice c.args.place old.peers.items c.loop.self.peers.items mid.peers.items c.loop.invariant.peers c.step.ensures.peers)
          (same_but_twice c.args.place old.chairs.items c.loop.self.chairs.items mid.chairs.items c.loop.invariant.chairs c.step.ensures.chairs)
          left.peers left.chairs;
      here = inl (gone_at mid.peers.items c.leave.new.self.peers.items c.args.place left.peers);
      answered = answers_once_more g.row.W.Denot (g.A.Answerer.answers c.args.answerer.now) c.args.now old.patience
          (slice_get old.peers.items c.args.place) (slice_get c.loop.self.peers.items c.args.place) c.args.subject.now c.loop.subject c.step.new.subject
          c.loop.invariant.here c.loop.invariant.answered c.step.ensures.once;
      heard = unheard_none (slice_get c.leave.new.self.chairs.items c.args.place) (gone_at mid.chairs.items c.leave.new.self.chairs.items c.args.place left.chairs);
      patience = left.patience ∙ c.step.ensures.patience ∙ c.loop.invariant.patience;
    }

pub loop-preserved : goal.loop-preserved
loop-preserved g c =
    let old = c.args.self.now in
    let seat = slice_get old.peers.items c.args.place in
    let mid = slice_get c.loop.self.peers.items c.args.place in
    let new = slice_get c.step.new.self.peers.items c.args.place in
    let turn = subst (λ p. GoesOn c.args.now p mid new) c.loop.invariant.patience c.step.ensures.here in
    record {
      peers = same_but_twice c.args.place old.peers.items c.loop.self.peers.items c.step.new.self.peers.items c.loop.invariant.peers c.step.ensures.peers;
      chairs = same_but_twice c.args.place old.chairs.items c.loop.self.chairs.items c.step.new.self.chairs.items c.loop.invariant.chairs c.step.ensures.chairs;
      here = goes_on_more c.args.now old.patience c.loop.self.patience seat mid new c.loop.invariant.here c.loop.invariant.patience c.step.ensures.here;
      answered = answers_last_more g.row.W.Denot (g.A.Answerer.answers c.args.answerer.now) c.args.now old.patience seat mid new c.args.subject.now c.loop.subject c.step.new.subject
          c.loop.invariant.here turn c.loop.invariant.answered c.in_ok-step.ensures.last;
      patience = c.step.ensures.patience ∙ c.loop.invariant.patience;
    }

pub returns-clause-answered : goal.returns-clause-answered
returns-clause-answered g c =
    answers_once g.row.W.Denot (g.A.Answerer.answers c.args.answerer.now) (slice_get c.args.self.now.peers.items c.args.place) (slice_get c.loop.self.peers.items c.args.place) c.args.subject.now c.loop.subject
    c.loop.invariant.answered
