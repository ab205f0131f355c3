use Rattle.std.proofs.Common.{◌≡◌, Option, sym, subst, ◌∙◌}
use Rattle.ci_machine_steps.specs.Prelude.{Pipeline, Plan, jobs_in}
use Rattle.ci_machine_steps.specs.Prunes as machine
use Rattle.ci_server_lookups.proofs.Loading.{continues, if_kept}
use Rattle.ci_server_events.specs.Planning.{PlansFor}
use Rattle.ci_server_events.proofs.Pruning.{found_is}
use Rattle.ci_server_events.proofs.prunes.prune_one.Goals as goal

pub returns-in-Some : goal.returns-in-Some
returns-in-Some g c =
    continues c.in_ok-pipeline.was c.first_prunable.ensures (if_kept c.prune.ensures)
    (λ k y e found plans kept.
    let is = sym c.in-Some.is ∙ found kept in
    let its = found_is k c.args.before c.in-Some.pipeline (sym is) in
    subst (λ (o : Option Pipeline). PlansFor k (◌≡◌ {A = Plan} (y.answer, y.changes) (machine.prune o (jobs_in k.state o) k.state.attempts)) y) is
    (plans kept its.0 its.1))
