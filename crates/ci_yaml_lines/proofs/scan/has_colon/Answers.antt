use Rattle.std.proofs.Common.{refl}
use Rattle.ci_yaml_lines.specs.Prelude.{has_colon}
use Rattle.ci_yaml_lines.proofs.Scans.{search-on, colon_here}
use Rattle.ci_yaml_lines.proofs.scan.has_colon.Goals as goal

pub scan-preserved : goal.scan-preserved
scan-preserved c = search-on has_colon colon_here (λ _ _. refl) c.scan.rest.now c.in-len1-up.len_at_least c.scan.invariant c.ends_key.ensures c.if-ends_key.false
