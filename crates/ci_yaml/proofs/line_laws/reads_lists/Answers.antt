use Rattle.ci_yaml_lines.proofs.FlowLists.{list-is, is-list}
use Rattle.ci_yaml.proofs.line_laws.reads_lists.Goals as goal

pub returns : goal.returns
returns c = record {
  is_written = λ bytes rest opens codes is. list-is bytes rest opens codes is;
  is_read = λ bytes rest vs h. is-list bytes vs rest h;
}
