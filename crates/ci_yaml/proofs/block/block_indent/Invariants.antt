use Rattle.std.proofs.Common.{◌≡◌, drop}
use Rattle.ci_yaml.specs.Prelude.{first_indent, texts_of}
use Rattle.ci_yaml.proofs.block.block_indent.Given as goal

abbrev pub invariant-loop-line : goal.invariant-loop-line
invariant-loop-line l = first_indent (texts_of (drop l.line-index l.lines)) ≡ first_indent (texts_of l.lines)
