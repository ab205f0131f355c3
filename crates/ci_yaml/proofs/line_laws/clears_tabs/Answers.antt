use Rattle.ci_yaml_lines.proofs.Tabs.{clear-line}
use Rattle.ci_yaml.proofs.line_laws.clears_tabs.Goals as goal

pub returns : goal.returns
returns c = λ line content codes. clear-line line content codes
