use Rattle.ci_yaml_lines.specs.Prelude.{texts_in}
use Rattle.ci_yaml_lines.proofs.SpansLine.{stand-plain}
use Rattle.ci_yaml_lines.proofs.SpansOf.{exact-plain}
use Rattle.ci_yaml_lines.proofs.written.written_plain.Goals as goal

pub returns-clause-spans : goal.returns-clause-spans
returns-clause-spans c =
    stand-plain c.args.source c.args.text.now c.before_comment-raw.result.now c.trim_end-scalar.result.now c.front.result (texts_in c.plain.result)
    c.before_comment-raw.ensures c.trim_end-scalar.ensures c.front.ensures c.plain.ensures.spans

pub returns-clause-exact : goal.returns-clause-exact
returns-clause-exact c = λ none. exact-plain c.args.source c.args.text.now c.trim_end-scalar.result.now c.front.result c.plain.result c.plain.ensures.value c.front.ensures c.plain.ensures.exact none
