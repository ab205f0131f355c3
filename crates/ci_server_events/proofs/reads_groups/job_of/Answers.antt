use Rattle.std.proofs.Common.{option_map, sym, ap, ◌∙◌}
use Rattle.ci_machine_steps.specs.Prelude.{Attempt}
use Rattle.ci_server_events.specs.Groups.{job_holding}
use Rattle.ci_server_lookups.proofs.Loading.{yields}
use Rattle.ci_server_events.proofs.reads_groups.job_of.Goals as goal

pub returns : goal.returns
returns g c =
    yields c.in_ok-found.was c.attempt.ensures
    (λ k found. c.number_of.ensures ∙ ap (option_map (λ (a : Attempt). a.job)) found ∙ ap (job_holding k.state) (sym c.in-Some.is))
