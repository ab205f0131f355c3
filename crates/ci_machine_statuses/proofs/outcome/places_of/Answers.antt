use Rattle.std.proofs.Common.{sym, ap, ◌∙◌, map}
use Rattle.ci_machine_statuses.specs.Acts.{is_acted_at}
use Rattle.ci_machine_statuses.proofs.ActPlaces.{place_pushed, place_passed}
use Rattle.ci_machine_statuses.proofs.outcome.places_of.Goals as goal
use Rattle.ci_machine_statuses.proofs.outcome.places_of.Goals.{then-is_acted_at+in_ok-push, else-is_acted_at}

pub loop-place-preserved : goal.loop-place-preserved
loop-place-preserved g c =
    let r = is_acted_at c.args.act c.args.only (map (λ j. j.id) c.args.jobs.now) c.args.board.now.rows in
    elim c.if-is_acted_at.branch [
      | then-is_acted_at+in_ok-push w ↦
          ap (λ v. v.items) w.places-is ∙ place_pushed r c.loop-place.place c.loop-place.places.items w.push.new.self.items (sym c.is_acted_at.ensures ∙ w.if-is_acted_at.true) c.loop-place.invariant w.in_ok-push.ensures.items
      | else-is_acted_at w ↦
          ap (λ v. v.items) w.places-is ∙ place_passed r c.loop-place.place c.loop-place.places.items (sym c.is_acted_at.ensures ∙ w.if-is_acted_at.false) c.loop-place.invariant
    ]
