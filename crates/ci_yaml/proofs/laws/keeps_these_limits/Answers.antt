use Rattle.std.proofs.Common.{arith}
use Rattle.ci_yaml.proofs.laws.keeps_these_limits.Goals as goal

pub returns-clause-longest : goal.returns-clause-longest
returns-clause-longest c = λ bytes es end v size parses document. record { size = omega (arith, size); entries = es; end = end; parses = parses; document = document }
