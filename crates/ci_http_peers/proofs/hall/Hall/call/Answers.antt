use Rattle.std.proofs.Common.{◌≡◌, ◌∙◌, refl, sym, ap, subst, Some, slice_get}
use Rattle.std.proofs.lemmas.Bool.{true≢false}
use Rattle.ci_http_peers.specs.declared.peer.Among.TheVariants.{All, Reading, Writing}
use Rattle.ci_http_peers.specs.Turns.{CallsAt, IsGone, is_at}
use Rattle.ci_http_peers.proofs.Turns.{back_same_but, found_at, here_set, same_there, written_back}
use Rattle.ci_http_peers.proofs.hall.Hall.call.Goals as goal

pub returns : goal.returns
returns g c =
    let chairs = c.args.self.now.chairs in
    let shown = c.deref_mut.ensures.value in
    let back = written_back c.call_at.new.chairs chairs.items chairs.len (c.call_at.auto.chairs ∙ c.deref_mut.ensures.len) in
    let found = c.in-Some-Some.ensures.lookup in
    let sits : slice_get c.args.self.now.peers.items c.args.place ≡ Some (Some c.in-Some-Some.peer) =
    found_at c.args.self.now.peers.items c.deref.result.now c.args.place c.in-Some-Some.field-0.now _ c.deref.ensures.value found.3.0 found.1 c.in-Some-Some.field-0-is in
    record {
      peers = refl;
      chairs = back_same_but chairs.items c.deref_mut.result.now c.call_at.new.chairs chairs.len c.args.place c.call_at.auto.chairs c.deref_mut.ensures.len shown c.call_at.ensures.others;
      nobody = λ none. absurd (true≢false (sym (ap (is_at All) sits) ∙ none));
      none = λ gone. (c.call_at.ensures.none (subst (λ l. IsGone (slice_get l c.args.place)) (sym shown) gone)).0;
      calls = λ peer old seat at.
          let here : slice_get c.deref_mut.result.now c.args.place ≡ Some (Some old) = ap (λ l. slice_get l c.args.place) shown ∙ at in
          let (new, is, calls) = c.call_at.ensures.calls old here in (
            new,
            ap (λ l. slice_get l c.args.place) (back ∙ is) ∙ here_set c.deref_mut.result.now c.args.place (Some new) (Some old) here,
            subst (λ p. CallsAt (g.A.Answerer.says_due c.args.answerer.now) g.W.Wire.receives g.W.Wire.sends p.stage old new c.call_at.result) (same_there _ c.in-Some-Some.peer peer sits seat) calls,
          );
      whole = λ is.
          let (reads, chair, at, all) = c.call_at.ensures.whole is in
          (ap (is_at Reading) sits ∙ reads, chair, ap (λ l. slice_get l c.args.place) back ∙ at, all);
      went = λ is. ap (is_at Writing) sits ∙ c.call_at.ensures.went is;
      patience = refl;
    }
