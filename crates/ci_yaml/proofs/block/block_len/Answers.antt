use Rattle.std.proofs.Common.{◌∙◌, sym, arith}
use Rattle.ci_yaml.proofs.BlockLines.{indent-more, block-more}
use Rattle.ci_yaml.proofs.block.block_len.Goals as goal

pub loop-at-preserved : goal.loop-at-preserved
loop-at-preserved c = (
  indent-more c.args.lines.now c.loop-at.at _ c.as_bytes-bytes.result.now c.loop-at.indent c.more_indent-indent.result (omega arith) c.as_bytes-bytes.ensures.value c.loop-at.invariant.0 c.more_indent-indent.ensures,
  block-more c.args.column c.args.lines.now c.loop-at.at _ c.as_bytes-bytes.result.now c.loop-at.indent (omega arith) c.as_bytes-bytes.ensures.value c.loop-at.invariant.0 c.loop-at.invariant.1
      (sym c.if-not-is_in_block.ensures) (sym c.block_code.ensures ∙ c.in_default.is),
)
