use Rattle.std.proofs.Common.{length, refl}
use Rattle.ci_yaml_lines.specs.Prelude.{texts_in}
use Rattle.ci_yaml_lines.proofs.SpansLine.{stand-plain-place}
use Rattle.ci_yaml_lines.proofs.SpansOf.{exact-plain-place}
use Rattle.ci_yaml_lines.proofs.flow.plain_place.Goals as goal

pub returns-clause-spans : goal.returns-clause-spans
returns-clause-spans c =
    let scalar = c.drop_blanks-scalar.result.now in
    stand-plain-place c.args.source c.args.text.now c.trim_end-trimmed.result.now scalar c.drop_blanks-from.result.now c.cut_place.result (length scalar) c.front.result (texts_in c.plain.result)
    c.cut_place.ensures c.trim_end-trimmed.ensures c.drop_blanks-scalar.ensures c.drop_blanks-from.ensures refl c.front.ensures c.plain.ensures.spans

pub returns-clause-exact : goal.returns-clause-exact
returns-clause-exact c =
    exact-plain-place c.args.source c.args.text.now c.drop_blanks-from.result.now c.drop_blanks-scalar.result.now c.front.result c.plain.result c.drop_blanks-from.ensures c.plain.ensures.value c.front.ensures c.plain.ensures.exact
