use Rattle.std.proofs.lemmas.Result.{IfOk-at_ok}
use Rattle.ci_server_lookups.proofs.Loading.{leads}
use Rattle.ci_server_events.proofs.acts.act_on_found.Goals as goal

-- what was looked up is its pipeline
pub returns : goal.returns
returns g c =
    leads c.in_ok-whole.was c.whole_of.ensures
    (λ k y is whole kept has. IfOk-at_ok _ is c.acted.ensures k kept has (whole kept))
