use Rattle.std.proofs.Common.{option_map, sym, ap, ◌∙◌}
use Rattle.ci_server_lookups.proofs.Loading.{yields}
use Rattle.ci_server_lookups.proofs.leases.lease_at.Goals as goal

pub returns-in-Some : goal.returns-in-Some
returns-in-Some g c =
    yields c.in_ok-leased.was c.leased_at.ensures
    (λ k its. sym (ap (option_map (λ x. x.lease)) c.in-Some.is) ∙ its)

pub returns-in-None : goal.returns-in-None
returns-in-None g c =
    yields c.in_ok-leased.was c.leased_at.ensures
    (λ k its. sym (ap (option_map (λ x. x.lease)) c.in-None.is) ∙ its)
