use Rattle.std.proofs.Common.{ap, ◌∙◌}
use Rattle.ci_machine_steps.specs.Prelude.{group_data}
use Rattle.ci_server_events.specs.Groups.{job_holding}
use Rattle.ci_server_lookups.proofs.Loading.{yields}
use Rattle.ci_server_events.proofs.reads_groups.told_one.Goals as goal

pub returns : goal.returns
returns g c =
    yields c.in_ok-holder.was c.job_of.ensures
    (λ k job. λ i. group_data (c.in_ok-key.ensures.cases i) (c.order_of-order.ensures i) ((job ∙ ap (job_holding k.state) c.holding.ensures) i))
