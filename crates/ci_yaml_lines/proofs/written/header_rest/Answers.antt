use Rattle.ci_yaml_lines.specs.Prelude.{texts_in}
use Rattle.ci_yaml_lines.proofs.SpansStand.{stand-all}
use Rattle.ci_yaml_lines.proofs.written.header_rest.Goals as goal

pub returns-clause-spans : goal.returns-clause-spans
returns-clause-spans c = stand-all c.args.source c.args.text.now c.args.text.now (texts_in c.no_text.result) c.no_text.ensures.spans
