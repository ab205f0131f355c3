use Rattle.std.proofs.Common.{[], arith}
use Rattle.ci_yaml.specs.Prelude.{state_view, texts_of, state_texts, Lines}
use Rattle.ci_yaml.proofs.BlockLines.{length-texts}
use Rattle.ci_yaml.proofs.ReadSteps.{nothing-read, all-read}
use Rattle.ci_yaml.proofs.reader.read_lines.Goals as goal

pub lines-init : goal.lines-init
lines-init c = record { within = omega arith; short = c.requires.short; read = nothing-read (texts_of c.args.lines.now); texts = Lines.none 0 []; exact = λ more h. h }

pub returns : goal.returns
returns c =
    let all =
    all-read (texts_of c.args.lines.now) c.lines.at (state_view c.lines.progress) (state_texts c.lines.progress) (omega (arith, length-texts c.args.lines.now, c.lines-test.false))
    (record { read = c.lines.invariant.read; texts = c.lines.invariant.texts; exact = c.lines.invariant.exact }) in
    record { read = all.0; spans = all.1; exact = all.2; fault = tt }
