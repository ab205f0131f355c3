use Rattle.std.proofs.Common.{◌≡◌, take, []}
use Rattle.ci_yaml.specs.Prelude.{first_indent, AreBlock, texts_of}
use Rattle.ci_yaml.proofs.block.block_len.Given as goal

abbrev pub invariant-loop-at : goal.invariant-loop-at
invariant-loop-at l = (l.indent ≡ first_indent (texts_of (take l.at l.lines))) × AreBlock l.column [] (texts_of (take l.at l.lines))
