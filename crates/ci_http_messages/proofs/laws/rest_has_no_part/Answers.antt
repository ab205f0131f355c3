use Rattle.ci_http_messages.proofs.Beginnings as beginnings
use Rattle.ci_http_messages.proofs.laws.rest_has_no_part.Goals as goal

pub returns : goal.returns
returns c = beginnings.rest_has_no_part
