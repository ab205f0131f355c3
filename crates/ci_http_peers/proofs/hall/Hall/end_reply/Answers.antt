use Rattle.std.proofs.Common.{◌≡◌, ◌∙◌, refl, sym, ap, subst, inr, Some, None, slice_get, slice_set}
use Rattle.ci_http_peers.specs.Turns.{IsGone}
use Rattle.ci_http_peers.proofs.Turns.{back_same_but, back_set, some_step, written_back}
use Rattle.ci_http_peers.proofs.hall.Hall.end_reply.Goals as goal

pub returns-in_default-clause-ends : goal.returns-in_default-clause-ends
returns-in_default-clause-ends g c = λ chair at.
    let chairs = c.args.self.now.chairs in
    let shown = c.deref_mut.ensures.value in
    let back = written_back c.end_at.new.chairs chairs.items chairs.len (c.end_at.auto.chairs ∙ c.deref_mut.ensures.len) in
    let here : slice_get c.deref_mut.result.now c.args.place ≡ Some (Some chair) = ap (λ l. slice_get l c.args.place) shown ∙ at in (
      (λ exact. (refl, refl, back ∙ (c.end_at.ensures.over chair here exact).1 ∙ shown)),
      (λ more.
          let (new, is, ends, again, waits) = c.end_at.ensures.ends chair here more in
          absurd (some_step chair.is_heard c.end_at.result _ _ again waits c.in_default.is)),
    )

pub returns-in_default-clause-chairs : goal.returns-in_default-clause-chairs
returns-in_default-clause-chairs g c =
    let chairs = c.args.self.now.chairs in
    back_same_but chairs.items c.deref_mut.result.now c.end_at.new.chairs chairs.len c.args.place c.end_at.auto.chairs c.deref_mut.ensures.len c.deref_mut.ensures.value c.end_at.ensures.others

pub returns : goal.returns
returns g c =
    let chairs = c.args.self.now.chairs in
    let seats = c.args.self.now.peers in
    let shown = c.deref_mut.ensures.value in
    let set = back_set seats.items c.deref_mut-2.result.now c.put.new.table seats.len c.args.place (Some c.ending.result) c.put.auto.table c.deref_mut-2.ensures.len c.deref_mut-2.ensures.value c.put.ensures
    ∙ ap (λ p. slice_set seats.items c.args.place (Some p)) c.ending.ensures in
    let goes_on : c.end_at.result ≡ None → ⊥ = λ none. let both : None ≡ Some c.in-Some.step = sym none ∙ c.in-Some.is in cc in
    record {
      ends = λ chair at.
          let here : slice_get c.deref_mut.result.now c.args.place ≡ Some (Some chair) = ap (λ l. slice_get l c.args.place) shown ∙ at in (
            (λ exact. absurd (goes_on (c.end_at.ensures.over chair here exact).0)),
            (λ more.
                let (new, is, ends, again, waits) = c.end_at.ensures.ends chair here more in (
                  set,
                  (new, back_set chairs.items c.deref_mut.result.now c.end_at.new.chairs chairs.len c.args.place (Some new) c.end_at.auto.chairs c.deref_mut.ensures.len shown is, ends),
                  (λ heard. let e : Some c.in-Some.step ≡ Some _ = sym c.in-Some.is ∙ again heard in cc),
                  (λ heard. let e : Some c.in-Some.step ≡ Some _ = sym c.in-Some.is ∙ waits heard in cc),
                )),
          );
      none = λ gone. absurd (goes_on (c.end_at.ensures.none (subst (λ l. IsGone (slice_get l c.args.place)) (sym shown) gone)).0);
      peers = inr set;
      chairs = back_same_but chairs.items c.deref_mut.result.now c.end_at.new.chairs chairs.len c.args.place c.end_at.auto.chairs c.deref_mut.ensures.len shown c.end_at.ensures.others;
      patience = refl;
    }
