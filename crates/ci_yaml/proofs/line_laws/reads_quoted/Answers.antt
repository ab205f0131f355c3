use Rattle.ci_yaml_lines.proofs.Quoting.{quoted-is, is-quoted}
use Rattle.ci_yaml.proofs.line_laws.reads_quoted.Goals as goal

pub returns : goal.returns
returns c = record {
  is_written = λ bytes q e. quoted-is bytes q e;
  is_read = λ bytes q h. is-quoted bytes q h;
}
