use Rattle.std.proofs.Common.{◌≡◌, length, sym, ◌∙◌}
use Rattle.std.proofs.lemmas.Result.{IfOk-at_ok}
use Rattle.ci_machine_steps.specs.Prelude.{Plan, lease_at, trace_of}
use Rattle.ci_machine_steps.specs.Traces as machine
use Rattle.ci_server_lookups.proofs.Loading.{closes, continues}
use Rattle.ci_server_events.proofs.Found.{leased}
use Rattle.ci_server_events.proofs.Leaving.{alone_settles, leaves_so, plans_so, trace_leaves}
use Rattle.ci_server_events.proofs.traces.append_trace.Goals as goal

-- the attempt that grows is one of the state's, and stands as it did
pub returns : goal.returns
returns g c =
    let part = c.args.part in
    let plan = c.in_ok-plan-2.plan in
    continues c.in_ok-lease.was c.lease_at.ensures (closes c.in_ok-size.was c.trace_size.ensures)
    (λ k y is found size kept.
    let same : plan ≡ machine.append_trace (lease_at k.state part.attempt) (length (trace_of k.state part.attempt)) part c.args.now =
    c.in_ok-plan-2.ensures ∙ (λ i. machine.append_trace ((sym c.in-Some.is ∙ found) i) (size i) part c.args.now) in
    plans_so k (λ (p : Plan). p ≡ machine.append_trace (lease_at k.state part.attempt) (length (trace_of k.state part.attempt)) part c.args.now) (IfOk-at_ok _ is c.with.ensures.planned) same
    (alone_settles c.rows_stay.ensures c.indexes_stay.ensures k kept plan.1 c.nothing.result c.nothing.ensures.rows c.nothing.ensures.indexes
    (leaves_so k.state _ _ same (trace_leaves k.state _ _ part c.args.now (leased k.state part.attempt)))))
