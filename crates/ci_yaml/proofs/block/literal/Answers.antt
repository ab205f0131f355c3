use Rattle.ci_yaml.specs.Prelude.{texts_of}
use Rattle.ci_yaml.proofs.BlockLines.{texts-front}
use Rattle.ci_yaml.proofs.Literals.{keep-is, clip-is, strip-is_literal}
use Rattle.ci_yaml.proofs.block.literal.Goals as goal

pub returns-in_ok-push_lines-in-Keep : goal.returns-in_ok-push_lines-in-Keep
returns-in_ok-push_lines-in-Keep c =
    λ column are. rw (c.in_ok-push_lines-in-Keep.ensures, c.new-text.ensures.bytes, c.block_indent-indent.ensures, c.in-Keep.is) (keep-is column (texts_of c.args.lines.now) are)

pub returns-in_ok-push_lines-in-Clip : goal.returns-in_ok-push_lines-in-Clip
returns-in_ok-push_lines-in-Clip c = λ column are.
    let front = texts-front c.kept_len.result c.args.lines.now c.kept_len.ensures.value in
    rw (c.in_ok-push_lines-in-Clip.ensures, c.new-text.ensures.bytes, c.block_indent-indent.ensures, c.in-Clip.is, front) (clip-is column (texts_of c.args.lines.now) are)

pub returns-in_ok-push_stripped-in-Strip : goal.returns-in_ok-push_stripped-in-Strip
returns-in_ok-push_stripped-in-Strip c = λ column are.
    let front = texts-front c.kept_len.result c.args.lines.now c.kept_len.ensures.value in
    rw (c.in_ok-push_stripped-in-Strip.ensures, c.new-text.ensures.bytes, c.block_indent-indent.ensures, c.in-Strip.is, front)
    (strip-is_literal column (texts_of c.args.lines.now) are)
