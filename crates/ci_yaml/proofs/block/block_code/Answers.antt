use Rattle.std.proofs.Common.{◌∙◌, ap}
use Rattle.ci_yaml.specs.Prelude.{Y3, Y9, when, least, has_byte_order_mark, is_low}
use Rattle.ci_yaml_lines.proofs.Leasts.{least_two}
use Rattle.ci_yaml.proofs.block.block_code.Goals as goal

pub returns : goal.returns
returns c =
    least_two c.least_of.result c.when-low.result c.when-mark.result (when (is_low c.args.indent c.args.line.now) Y3) (when (has_byte_order_mark c.args.line.now) Y9) c.least_of.ensures
    (c.when-low.ensures ∙ ap (λ b. least (when b Y3)) c.is_low.ensures) (c.when-mark.ensures ∙ ap (λ b. least (when b Y9)) c.has_byte_order_mark.ensures)
