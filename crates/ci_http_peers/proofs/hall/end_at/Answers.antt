use Rattle.std.proofs.Common.{◌≡◌, ◌∙◌, refl, sym, ap, set, subst, Some}
use Rattle.std.proofs.lemmas.Bool.{true≢false}
use Rattle.std.proofs.lemmas.List.{set-get_or}
use Rattle.ci_http_peers.proofs.Turns.{same_item, no_item, none_past, not_gone, other_same}
use Rattle.ci_http_peers.proofs.hall.end_at.Goals as goal

pub returns-then-not-ends_with_reply : goal.returns-then-not-ends_with_reply
returns-then-not-ends_with_reply g c =
    let chairs = c.args.chairs.now in
    let none = c.index-chairs-place.result in
    record {
      others = λ k other. other_same chairs c.args.place k _ other;
      none = λ gone. absurd (not_gone chairs c.args.place none _ c.if-place-chairs.true c.in-Some.is gone);
      over = λ chair at exact.
          let same : c.in-Some.chair ≡ chair = same_item chairs c.args.place none _ _ c.in-Some.is at in
          absurd (true≢false (sym (c.ends_with_reply.ensures ∙ ap (λ o. o.is_exact) same ∙ exact) ∙ c.if-not-ends_with_reply.true));
      ends = λ chair at not.
          let same : c.in-Some.chair ≡ chair = same_item chairs c.args.place none _ _ c.in-Some.is at in
          let heard : c.in-Some.chair.is_heard ≡ chair.is_heard = ap (λ o. o.is_heard) same in (
            c.end.new.self,
            refl,
            (subst (λ o. g.W.Wire.ends o.wire c.end.new.self.wire) same c.end.ensures.told, c.end.ensures.bytes, c.end.ensures.count, c.end.ensures.heard ∙ heard),
            (λ is. ap Some (c.end.ensures.again (heard ∙ is))),
            (λ is. ap Some (c.end.ensures.waits (heard ∙ is))),
          );
    }

pub returns-else-not-ends_with_reply : goal.returns-else-not-ends_with_reply
returns-else-not-ends_with_reply g c =
    let chairs = c.args.chairs.now in
    let none = c.index-chairs-place.result in
    record {
      others = λ k other. other_same chairs c.args.place k _ other;
      none = λ gone. absurd (not_gone chairs c.args.place none _ c.if-place-chairs.true c.in-Some.is gone);
      over = λ chair at exact. (refl, ap (set chairs c.args.place) (sym c.in-Some.is) ∙ set-get_or chairs c.args.place none);
      ends = λ chair at not.
          let same : c.in-Some.chair ≡ chair = same_item chairs c.args.place none _ _ c.in-Some.is at in
          absurd (true≢false (sym c.if-not-ends_with_reply.false ∙ c.ends_with_reply.ensures ∙ ap (λ o. o.is_exact) same ∙ not));
    }

pub returns-in_default : goal.returns-in_default
returns-in_default g c =
    let chairs = c.args.chairs.now in
    let none = c.index-chairs-place.result in
    record {
      others = λ k other. other_same chairs c.args.place k _ other;
      none = λ gone. (refl, set-get_or chairs c.args.place none);
      over = λ chair at exact. (refl, set-get_or chairs c.args.place none);
      ends = λ chair at not. absurd (no_item chairs c.args.place none _ c.in_default.is at);
    }

pub returns-else-place-chairs-clause-ends : goal.returns-else-place-chairs-clause-ends
returns-else-place-chairs-clause-ends g c = λ chair at not. absurd (none_past c.args.chairs.now c.args.place _ c.if-place-chairs.false at)
