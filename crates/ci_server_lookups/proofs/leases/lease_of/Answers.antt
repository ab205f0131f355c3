use Rattle.ci_server_lookups.proofs.Loading.{yields}
use Rattle.ci_server_lookups.proofs.leases.lease_of.Goals as goal

pub returns : goal.returns
returns g c =
    yields c.in_ok-lease.was c.with_pipeline.ensures.lease
    (λ k its. its)
