use Rattle.std.proofs.Common.{◌≡◌}
use Rattle.ci_http_messages.proofs.Heads.{Taken}
use Rattle.ci_http_messages.proofs.head.read_head.Given as goal

abbrev pub invariant-loop : goal.invariant-loop
invariant-loop g l = Taken (g.R.Source.left l.fn.reader) (g.R.Source.left l.reader) l.head.items l.counter × (g.R.Source.failures l.reader ≡ g.R.Source.failures l.fn.reader)
