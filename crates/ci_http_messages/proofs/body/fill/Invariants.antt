-- What was filled is what was taken.
use Rattle.std.proofs.Common.{◌≡◌, ◌≤◌, ◌-◌, length, take}
use Rattle.std.specs.Io.KnownBytes.{Consumes}
use Rattle.ci_http_messages.proofs.body.fill.Given as goal

abbrev pub invariant-loop-at : goal.invariant-loop-at
invariant-loop-at g l = (length l.buf ≡ length l.initial.buf) × (l.at ≤ length l.buf) × Consumes (g.R.Source.left l.fn.reader) (g.R.Source.left l.reader) (take l.at l.buf) × (g.R.Source.failures l.reader ≡ g.R.Source.failures l.fn.reader)

abbrev pub decreases-loop-at : goal.decreases-loop-at
decreases-loop-at g l = length l.buf - l.at
