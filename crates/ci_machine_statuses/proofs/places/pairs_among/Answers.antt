use Rattle.std.proofs.Common.{◌<◌, length, ℕ, arith, sym, ap, subst, ◌∙◌}
use Rattle.std.proofs.lemmas.Bool.{both_ways}
use Rattle.std.proofs.lemmas.List.Elements.{All-push}
use Rattle.ci_machine.specs.Prelude.{is_among, AreWithin}
use Rattle.ci_machine_statuses.proofs.Positions.{not_placed, named_more, pair_more, pair_less}
use Rattle.ci_machine_statuses.proofs.places.pairs_among.Goals as goal
use Rattle.ci_machine_statuses.proofs.places.pairs_among.Goals.{in-Some+in_ok-pair_at+in_ok-push, in_default}

pub loop-need-preserved : goal.loop-need-preserved
loop-need-preserved c =
    elim c.match-place_of.branch [
      | in-Some+in_ok-pair_at+in_ok-push w ↦ (
        subst (AreWithin (length c.args.numbers.now)) (sym (ap (λ v. v.items) w.pairs-is ∙ w.in_ok-push.ensures.items)) (All-push (λ (q : ℕ × ℕ). (q.0 < length c.args.numbers.now) × (q.1 < length c.args.numbers.now)) c.loop-need.pairs.items _ c.loop-need.invariant.0 w.in_ok-pair_at.ensures.within),
        λ up. ap (λ v. v.items) w.pairs-is ∙ (w.in_ok-push.ensures.items ∙ pair_more c.args.numbers.now c.args.needs.now c.loop-need.need-index _ _ _ w.in-Some.job (omega arith) (sym (c.place_of.ensures.place up) ∙ w.in-Some.is) (w.in_ok-pair_at.ensures.pair up) (c.loop-need.invariant.1 up)),
        λ up. named_more c.args.numbers.now c.args.needs.now c.loop-need.need-index _ (omega arith) (c.loop-need.invariant.2 up) (λ e. w.in_ok-pair_at.ensures.named up),
      )
      | in_default w ↦ (
        subst (AreWithin (length c.args.numbers.now)) (sym (ap (λ v. v.items) w.pairs-is)) c.loop-need.invariant.0,
        λ up. ap (λ v. v.items) w.pairs-is ∙ pair_less c.args.numbers.now c.args.needs.now c.loop-need.need-index _ _ (omega arith) (sym (c.place_of.ensures.place up) ∙ w.in_default.is) (c.loop-need.invariant.1 up),
        λ up. named_more c.args.numbers.now c.args.needs.now c.loop-need.need-index _ (omega arith) (c.loop-need.invariant.2 up)
            (λ e. absurd (both_ways (is_among c.args.numbers.now _) (not_placed c.args.numbers.now _ (sym (c.place_of.ensures.place up) ∙ w.in_default.is)) e)),
      )
    ]
