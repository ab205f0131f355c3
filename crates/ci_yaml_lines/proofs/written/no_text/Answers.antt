use Rattle.std.proofs.Common.{refl}
use Rattle.ci_yaml_lines.proofs.SpansLine.{stand-empty_text}
use Rattle.ci_yaml_lines.proofs.SpansOf.{one-text}
use Rattle.ci_yaml_lines.proofs.written.no_text.Goals as goal

pub returns-clause-spans : goal.returns-clause-spans
returns-clause-spans c = stand-empty_text c.args.source c.args.text.now (record { words = _; span = c.before-2.result }) refl c.before-2.ensures

pub returns-clause-exact : goal.returns-clause-exact
returns-clause-exact c = one-text (record { words = _; span = c.before-2.result }) _ c.before-2.ensures
