use Rattle.std.proofs.Common.{refl}
use Rattle.ci_yaml_lines.specs.Prelude.{has_inner}
use Rattle.ci_yaml_lines.proofs.Scans.{search-on, inner_here}
use Rattle.ci_yaml_lines.proofs.scan.has_inner.Goals as goal

pub scan-preserved : goal.scan-preserved
scan-preserved c = search-on has_inner inner_here (λ _ _. refl) c.scan.rest.now c.in-len1-up.len_at_least c.scan.invariant c.is_inner.ensures c.if-is_inner.false
