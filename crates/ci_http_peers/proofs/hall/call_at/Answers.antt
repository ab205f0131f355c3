use Rattle.std.proofs.Common.{refl, subst, get_or, Some}
use Rattle.std.proofs.lemmas.List.{set-get_or}
use Rattle.std.proofs.lemmas.Option.{slice_get-get_or}
use Rattle.ci_http_peers.specs.Turns.{CallsAt}
use Rattle.ci_http_peers.proofs.Turns.{here_set, same_item, no_item, none_past, not_gone, other_same}
use Rattle.ci_http_peers.proofs.hall.call_at.Goals as goal

pub returns-in_default-clause-calls : goal.returns-in_default-clause-calls
returns-in_default-clause-calls g c = λ old at. absurd (no_item c.args.chairs.now c.args.place c.index-chairs-place.result _ c.in_default.is at)

pub returns-else-place-chairs-clause-calls : goal.returns-else-place-chairs-clause-calls
returns-else-place-chairs-clause-calls g c = λ old at. absurd (none_past c.args.chairs.now c.args.place _ c.if-place-chairs.false at)

pub returns-in_default-clause-others : goal.returns-in_default-clause-others
returns-in_default-clause-others g c = λ k other. other_same c.args.chairs.now c.args.place k _ other

pub returns-in_default-clause-none : goal.returns-in_default-clause-none
returns-in_default-clause-none g c = λ gone. (refl, set-get_or c.args.chairs.now c.args.place c.index-chairs-place.result)

pub returns-in-Some : goal.returns-in-Some
returns-in-Some g c =
    let chairs = c.args.chairs.now in
    let none = c.index-chairs-place.result in
    let new = c.call_one.new.chair in
    record {
      others = λ k other. other_same chairs c.args.place k (Some new) other;
      none = λ gone. absurd (not_gone chairs c.args.place none _ c.if-place-chairs.true c.in-Some.is gone);
      calls = λ old at. (
        new,
        refl,
        subst (λ o. CallsAt (g.A.Answerer.says_due c.args.answerer.now) g.W.Wire.receives g.W.Wire.sends c.args.stage o new c.call_one.result)
            (same_item chairs c.args.place none _ old c.in-Some.is at) c.call_one.ensures.calls,
      );
      whole = λ is.
          let (reads, all) = c.call_one.ensures.whole is in
          (reads, new, here_set chairs c.args.place (Some new) (get_or chairs c.args.place none) (slice_get-get_or chairs c.args.place none c.if-place-chairs.true), all);
      went = c.call_one.ensures.went;
    }
