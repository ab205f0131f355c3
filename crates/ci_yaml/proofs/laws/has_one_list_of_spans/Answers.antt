use Rattle.ci_yaml.proofs.TextSpans.{spans-same}
use Rattle.ci_yaml.proofs.laws.has_one_list_of_spans.Goals as goal

pub returns : goal.returns
returns c = λ ls a b p q. spans-same 0 ls a b p q
