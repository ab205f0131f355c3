use Rattle.std.proofs.Common.{◌≡◌, ◌∙◌, ap, arith}
use Rattle.ci_yaml_lines.specs.Prelude.{spaces}
use Rattle.ci_yaml_lines.proofs.Cuts.{spaces-inside}
use Rattle.ci_yaml_lines.proofs.cut.skip_spaces.Goals as goal

pub skip-requires : goal.skip-requires
skip-requires c =
    let e : c.spaces.result ≡ spaces c.args.text.now = c.spaces.ensures ∙ ap spaces c.as_bytes.ensures.value in
    spaces-inside c.args.text.now c.min-n.result c.utf8.text (omega arith)
