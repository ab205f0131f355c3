use Rattle.std.specs.Str.Lines.{lines}
use Rattle.ci_yaml.proofs.Trees.{one_tree}
use Rattle.ci_yaml.proofs.laws.has_one_tree.Goals as goal

pub returns : goal.returns
returns c = λ bytes v w h k. one_tree (lines bytes) h.entries k.entries h.end k.end v w h.parses h.document k.parses k.document
