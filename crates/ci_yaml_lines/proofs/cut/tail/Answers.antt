use Rattle.std.proofs.lemmas.Str.{IsCharBoundary-after_ascii}
use Rattle.ci_yaml_lines.proofs.cut.tail.Goals as goal

pub skip-requires : goal.skip-requires
skip-requires c = IsCharBoundary-after_ascii c.args.text.now 0 c.utf8.text c.requires.some c.requires.ascii
