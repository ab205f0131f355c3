use Rattle.std.proofs.Common.{refl}
use Rattle.ci_yaml_lines.specs.Prelude.{has_tab_after}
use Rattle.ci_yaml_lines.proofs.Scans.{search-on, tab_here}
use Rattle.ci_yaml_lines.proofs.scan.has_tab_after.Goals as goal

pub scan-preserved : goal.scan-preserved
scan-preserved c = search-on has_tab_after tab_here (λ _ _. refl) c.scan.rest.now c.in-len1-up.len_at_least c.scan.invariant c.is_tab_after.ensures c.if-is_tab_after.false
