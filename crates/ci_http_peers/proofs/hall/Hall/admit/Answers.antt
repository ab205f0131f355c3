use Rattle.std.proofs.Common.{◌≡◌, ◌∙◌, ap, sym, subst, Some, slice_get}
use Rattle.ci_http_peers.specs.Peers.{IsNext}
use Rattle.ci_http_peers.specs.Turns.{Seats}
use Rattle.ci_http_peers.proofs.Turns.{as_answers, more_answers, on_ok, same_but_set, seated_goes_on, stays_after}
use Rattle.ci_http_peers.proofs.hall.Hall.admit.Goals as goal

pub returns-clause-seats : goal.returns-clause-seats
returns-clause-seats g c =
    let (first, is_first, others) = c.go_on_first.ensures.others in
    let mid = c.go_on_first.new.self in
    let sat = c.seat.new.self in
    let new = c.go_on.new.self in
    let place = c.in-Some.place in
    let next = subst (λ l. IsNext l (Some place)) c.as_slice.ensures.value c.in-Some.ensures in
    let seats : Seats c.args.now c.args.self.now.patience mid.peers.items mid.chairs.items new.peers.items new.chairs.items = (
      Some place,
      next,
      (λ k other.
          let apart : k ≡ place → ⊥ = λ e. other (ap Some (sym e)) in
          stays_after mid.peers.items mid.chairs.items sat.peers.items sat.chairs.items new.peers.items new.chairs.items k
          (same_but_set mid.peers.items sat.peers.items place _ c.seat.ensures.peers k apart) (same_but_set mid.chairs.items sat.chairs.items place _ c.seat.ensures.chairs k apart)
          (c.go_on.ensures.others k apart)),
      (λ k at. seated_goes_on c.args.now c.args.self.now.patience mid.patience sat.patience place k mid.peers.items sat.peers.items c.reading.result new.peers.items next c.seat.ensures.peers
          c.reading.ensures c.go_on_first.ensures.patience (c.seat.ensures.patience ∙ c.go_on_first.ensures.patience) c.go_on.ensures.here at),
    ) in
    (first, mid.peers.items, mid.chairs.items, is_first, others, on_ok c.go_on.result seats)

pub returns-clause-answered : goal.returns-clause-answered
returns-clause-answered g c =
    let answers = g.A.Answerer.answers c.args.answerer.now in
    let mid = c.go_on_first.new.subject in
    more_answers answers c.args.subject.now mid c.go_on.new.subject c.go_on_first.ensures.answered
    (as_answers g.row.W.Denot answers (slice_get c.seat.new.self.peers.items c.in-Some.place) mid c.go_on.new.subject c.go_on.ensures.answered)
