use Rattle.ci_http_messages.proofs.Beginnings as beginnings
use Rattle.ci_http_messages.proofs.laws.beginning_ends.Goals as goal

pub returns : goal.returns
returns c = beginnings.beginning_ends
