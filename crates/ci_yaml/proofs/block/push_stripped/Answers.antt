use Rattle.std.proofs.Common.{string_bytes}
use Rattle.std.proofs.lemmas.Result.{IfOk-weaker}
use Rattle.ci_yaml.proofs.BlockLines.{strip-parts}
use Rattle.ci_yaml.proofs.block.push_stripped.Goals as goal

pub returns-in_ok-push_lines-in-len1-up : goal.returns-in_ok-push_lines-in-len1-up
returns-in_ok-push_lines-in-len1-up c =
    IfOk-weaker c.push_line.result _ _
    (λ x e. strip-parts c.args.indent c.args.lines.now _ (string_bytes c.args.text.now) (string_bytes c.push_lines.new.text)
    (string_bytes c.push_line.new.text) c.in-len1-up.len_at_least c.in_ok-push_lines-in-len1-up.ensures e)
    c.push_line.ensures
