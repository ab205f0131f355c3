use Rattle.std.proofs.Common.{◌∙◌, ap, sym, arith, unwrap_or}
use Rattle.ci_yaml.specs.Prelude.{spaces, first_indent}
use Rattle.ci_yaml.proofs.BlockLines.{indent-here, indent-next, texts-past}
use Rattle.ci_yaml.proofs.block.block_indent.Goals as goal

pub returns-then-not-is_spaces : goal.returns-then-not-is_spaces
returns-then-not-is_spaces c =
    c.spaces.ensures ∙ ap spaces (c.as_bytes-then-not-is_spaces.ensures.value ∙ sym c.as_bytes.ensures.value)
    ∙ ap (λ o. unwrap_or o 0) (sym (indent-here c.args.lines.now c.loop-line.line-index _ c.as_bytes.result.now (omega arith) c.as_bytes.ensures.value (sym c.if-not-is_spaces.ensures)) ∙ c.loop-line.invariant)

pub loop-line-preserved : goal.loop-line-preserved
loop-line-preserved c = indent-next c.args.lines.now c.loop-line.line-index _ c.as_bytes.result.now (omega arith) c.as_bytes.ensures.value (sym c.if-not-is_spaces.ensures) ∙ c.loop-line.invariant

pub returns : goal.returns
returns c = ap (λ o. unwrap_or o 0) (sym (ap first_indent (texts-past c.args.lines.now c.loop-line.line-index c.loop-line-test.false)) ∙ c.loop-line.invariant)
