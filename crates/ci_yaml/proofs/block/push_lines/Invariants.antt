use Rattle.std.proofs.Common.{◌≡◌, ◌++◌, drop, string_bytes}
use Rattle.ci_yaml.specs.Prelude.{texts_of, cut_lines}
use Rattle.ci_yaml.proofs.block.push_lines.Given as goal

abbrev pub invariant-loop-line : goal.invariant-loop-line
invariant-loop-line l = string_bytes l.text ++ cut_lines l.indent (texts_of (drop l.line-index l.lines)) ≡ string_bytes l.fn.text ++ cut_lines l.indent (texts_of l.lines)
