use Rattle.ci_yaml.proofs.LeastCodes.{parses-same}
use Rattle.ci_yaml.proofs.laws.parse_one_way.Goals as goal

pub returns : goal.returns
returns c = λ ls es fs d e s t. parses-same ls es fs d e s t
