use Rattle.std.proofs.Common.{◌≡◌, List, subst, sym}
use Rattle.std.proofs.lemmas.Result.{IfOk-at_ok}
use Rattle.ci_machine_steps.specs.Prelude.{RowChange, Swept, ends}
use Rattle.ci_server_events.specs.Planning.{MovesOne}
use Rattle.ci_server_lookups.proofs.Loading.{continues}
use Rattle.ci_server_events.proofs.Leaving.{plans_with, with_beside}
use Rattle.ci_server_events.proofs.Settles.{end_of_lease_moves}
use Rattle.ci_server_events.proofs.sweeps.end.Goals as goal

-- the sweep moves the attempt alone, so what was looked up settles it
pub returns : goal.returns
returns g c =
    let plan = c.in_ok-plan.plan in
    continues c.in_ok-job.was c.job.ensures (with_beside plan c.beside_changes-beside.ensures c.with.ensures.planned c.with.ensures.fault)
    (λ k y is found settles kept live.
    let w = IfOk-at_ok _ is c.with.ensures.planned in
    let moves : MovesOne k.state plan.1 = subst (λ (p : Swept × List RowChange). MovesOne k.state p.1) (sym c.in_ok-plan.ensures) (end_of_lease_moves k.state c.args.lease.now live) in
    plans_with k (λ (p : Swept × List RowChange). p ≡ ends c.args.lease.now) plan y w.0 w.1 c.in_ok-plan.ensures (settles kept moves))
