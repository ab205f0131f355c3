use Rattle.std.proofs.Common.{◌≡◌, slice_get}
use Rattle.ci_http_peers.specs.Turns.{AnswersLast, GoesOn, SameBut}
use Rattle.ci_http_peers.proofs.hall.Hall.go_on.Given as goal

-- no other place was touched yet, and a request that was answered isn't read any more
abbrev pub invariant-loop : goal.invariant-loop
invariant-loop g l = record {
  peers : SameBut l.place l.initial.self.peers.items l.self.peers.items;
  chairs : SameBut l.place l.initial.self.chairs.items l.self.chairs.items;
  here : GoesOn l.now l.initial.self.patience (slice_get l.initial.self.peers.items l.place) (slice_get l.self.peers.items l.place);
  answered : AnswersLast g.row.W.Denot (g.A.Answerer.answers l.answerer) (slice_get l.initial.self.peers.items l.place) (slice_get l.self.peers.items l.place) l.initial.subject l.subject;
  patience : l.self.patience ≡ l.initial.self.patience;
}
