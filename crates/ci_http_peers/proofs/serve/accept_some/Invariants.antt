use Rattle.std.proofs.Common.{ℕ, List}
use Rattle.ci_http_peers.specs.Turns.{Answers}
use Rattle.ci_http_peers.proofs.serve.accept_some.Given as goal

-- answers alone changed the subject so far
abbrev pub invariant-loop : goal.invariant-loop
invariant-loop g l = (requests : List (List ℕ)) × Answers (g.A.Answerer.answers l.answerer) requests l.initial.subject l.subject
