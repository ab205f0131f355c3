use Rattle.std.proofs.Common.{◌∙◌, arith, string_bytes}
use Rattle.ci_yaml.proofs.BlockLines.{push-next, push-past}
use Rattle.ci_yaml.proofs.block.push_lines.Goals as goal

pub loop-line-preserved : goal.loop-line-preserved
loop-line-preserved c =
    push-next c.args.indent c.args.lines.now c.loop-line.line-index _ (string_bytes c.loop-line.text) (string_bytes c.push_line.new.text) (string_bytes c.push_str.new.self) (omega arith) c.in_ok-push_line.ensures c.in_ok-push_str.ensures.bytes
    ∙ c.loop-line.invariant

pub returns : goal.returns
returns c = push-past c.args.indent c.args.lines.now c.loop-line.line-index (string_bytes c.loop-line.text) c.loop-line-test.false ∙ c.loop-line.invariant
