use Rattle.ci_server_lookups.proofs.Loading.{both_yield, if_kept}
use Rattle.ci_server_events.proofs.prepare.prepare.Goals as goal

pub returns : goal.returns
returns g c =
    both_yield
    c.in_ok-first_redundant.was c.in_ok-first_offer.was c.first_redundant.ensures (if_kept c.first_offer.ensures) (λ k found offered. tt)
