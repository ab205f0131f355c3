use Rattle.std.proofs.Common.{refl}
use Rattle.ci_yaml_lines.proofs.SpansLine.{stand-key}
use Rattle.ci_yaml_lines.proofs.line.plain_key.Goals as goal

pub returns-clause-spans : goal.returns-clause-spans
returns-clause-spans c =
    stand-key c.args.source c.args.text.now c.in_ok-raw.raw.now c.in_ok-raw.rest.now c.trim_end-name.result.now (record { words = _; span = c.front.result })
    c.in_ok-raw.ensures c.trim_end-name.ensures refl c.front.ensures
