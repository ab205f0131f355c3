use Rattle.std.proofs.Common.{refl}
use Rattle.ci_yaml_lines.specs.Prelude.{has_byte_order_mark}
use Rattle.ci_yaml_lines.proofs.Scans.{search-on, mark_here}
use Rattle.ci_yaml_lines.proofs.scan.has_byte_order_mark.Goals as goal

pub scan-preserved : goal.scan-preserved
scan-preserved c = search-on has_byte_order_mark mark_here (λ _ _. refl) c.scan.rest.now c.in-len1-up.len_at_least c.scan.invariant c.is_byte_order_mark.ensures c.if-is_byte_order_mark.false
