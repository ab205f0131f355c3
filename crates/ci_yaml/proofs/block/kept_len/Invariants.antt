use Rattle.std.proofs.Common.{◌≡◌, ◌≤◌, length}
use Rattle.ci_yaml.specs.Prelude.{kept_len, texts_of}
use Rattle.ci_yaml.proofs.block.kept_len.Given as goal

abbrev pub invariant-scan : goal.invariant-scan
invariant-scan l = (length l.rest ≤ length l.lines) × (kept_len (texts_of l.rest) ≡ kept_len (texts_of l.lines))

abbrev pub decreases-scan : goal.decreases-scan
decreases-scan l = length l.rest
