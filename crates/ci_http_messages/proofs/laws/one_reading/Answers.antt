use Rattle.ci_http_messages.proofs.Unique as unique
use Rattle.ci_http_messages.proofs.laws.one_reading.Goals as goal

pub returns : goal.returns
returns c = unique.one_reading
