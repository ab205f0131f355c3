use Rattle.std.proofs.Common.{ap, sym, subst, Some, slice_get}
use Rattle.ci_http_peers.specs.Peers.{IsNext}
use Rattle.ci_http_peers.proofs.Turns.{as_answers}
use Rattle.ci_http_peers.proofs.hall.Hall.go_on_first.Goals as goal

pub returns-in-Some-clause-others : goal.returns-in-Some-clause-others
returns-in-Some-clause-others g c = (
  Some c.in-Some.place,
  subst (λ l. IsNext l (Some c.in-Some.place)) c.as_slice.ensures.value c.in-Some.ensures,
  (λ k other. c.go_on.ensures.others k (λ e. other (ap Some (sym e)))),
)

pub returns-in-Some-clause-answered : goal.returns-in-Some-clause-answered
returns-in-Some-clause-answered g c =
    as_answers g.row.W.Denot (g.A.Answerer.answers c.args.answerer.now) (slice_get c.args.self.now.peers.items c.in-Some.place) c.args.subject.now c.go_on.new.subject c.go_on.ensures.answered
