use Rattle.std.proofs.Common.{◌≡◌, ◌∙◌, refl, sym, ap, subst, length, arith, inl, inr, Some, None, Ok, slice_get, slice_set}
use Rattle.ci_http_peers.specs.Answers.{text_of}
use Rattle.ci_http_peers.specs.Turns.{IsGone, writes_since}
use Rattle.ci_http_peers.proofs.Turns.{back_same_but, back_set, same_but_set}
use Rattle.ci_http_peers.proofs.hall.Hall.answer.Goals as goal

pub returns-in_err-reply-clause-none : goal.returns-in_err-reply-clause-none
returns-in_err-reply-clause-none g c = λ gone. (c.answer_at.ensures.none (subst (λ l. IsGone (slice_get l c.args.place)) (sym c.as_slice.ensures.value) gone)).1

pub returns-in_default : goal.returns-in_default
returns-in_default g c = record {
  answers = λ chair at. (
    None,
    subst (λ r. g.A.Answerer.answers c.args.answerer.now chair.bytes.items c.args.subject.now c.answer_at.new.subject (text_of r)) (c.in_ok-reply.was ∙ ap Ok c.in_default.is)
        (c.answer_at.ensures.answers chair (ap (λ l. slice_get l c.args.place) c.as_slice.ensures.value ∙ at)),
    (c.leave.ensures.peers, c.leave.ensures.chairs),
  );
  none = λ gone. (c.answer_at.ensures.none (subst (λ l. IsGone (slice_get l c.args.place)) (sym c.as_slice.ensures.value) gone)).1;
  failed = tt;
  peers = inr (inl c.leave.ensures.peers);
  chairs = same_but_set c.args.self.now.chairs.items c.leave.new.self.chairs.items c.args.place None c.leave.ensures.chairs;
  patience = c.leave.ensures.patience;
}

pub returns : goal.returns
returns g c =
    let chairs = c.args.self.now.chairs in
    let seats = c.args.self.now.peers in
    let shown = c.deref_mut.ensures.value in
    let back = back_set seats.items c.deref_mut-2.result.now c.put.new.table seats.len c.args.place (Some c.writing-peer.result) c.put.auto.table c.deref_mut-2.ensures.len c.deref_mut-2.ensures.value c.put.ensures in
    let bytes : c.len.result ≡ length c.in-Some.reply.items = omega (arith, c.len.ensures, c.in-Some.reply.ok.0) in
    record {
      answers = λ chair at. (
        Some c.in-Some.reply.items,
        subst (λ r. g.A.Answerer.answers c.args.answerer.now chair.bytes.items c.args.subject.now c.answer_at.new.subject (text_of r)) (c.in_ok-reply.was ∙ ap Ok c.in-Some.is)
            (c.answer_at.ensures.answers chair (ap (λ l. slice_get l c.args.place) c.as_slice.ensures.value ∙ at)),
        (
          back ∙ ap (λ p. slice_set seats.items c.args.place (Some p)) (c.writing-peer.ensures ∙ ap (writes_since c.args.now c.args.self.now.patience) bytes),
          (
            record chair { bytes = c.in-Some.reply; count = 0 },
            back_set chairs.items c.deref_mut.result.now c.reply_at.new.chairs chairs.len c.args.place _ c.reply_at.auto.chairs c.deref_mut.ensures.len shown (c.reply_at.ensures.replies chair (ap (λ l. slice_get l c.args.place) shown ∙ at)),
            refl,
            refl,
            refl,
            refl,
            refl,
          ),
        ),
      );
      none = λ gone. (c.answer_at.ensures.none (subst (λ l. IsGone (slice_get l c.args.place)) (sym c.as_slice.ensures.value) gone)).1;
      failed = tt;
      peers = inr (inr (c.len.result, back ∙ ap (λ p. slice_set seats.items c.args.place (Some p)) c.writing-peer.ensures));
      chairs = back_same_but chairs.items c.deref_mut.result.now c.reply_at.new.chairs chairs.len c.args.place c.reply_at.auto.chairs c.deref_mut.ensures.len shown c.reply_at.ensures.others;
      patience = refl;
    }
