-- What is gone from the rest was written.
use Rattle.std.proofs.Common.{◌≡◌, ℕ, ◌+◌, ◌≤◌, List, ◌++◌, length}
use Rattle.std.specs.Io.KnownBytes.{Appends}
use Rattle.ci_http.proofs.serve.put_all.Given as goal

abbrev pub invariant-loop-rest : goal.invariant-loop-rest
invariant-loop-rest g l = (done : List ℕ) × (l.initial.rest ≡ done ++ l.rest) × Appends (g.W.Sink.written l.fn.writer) (g.W.Sink.written l.writer) done × (g.W.Sink.failures l.writer ≡ g.W.Sink.failures l.fn.writer) × (g.W.Sink.room l.fn.writer ≤ g.W.Sink.room l.writer + length done)

abbrev pub decreases-loop-rest : goal.decreases-loop-rest
decreases-loop-rest g l = length l.rest
