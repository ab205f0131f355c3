use Rattle.std.proofs.Common.{Some, None, ap, ◌∙◌}
use Rattle.std.proofs.lemmas.Result.{IfOk-at_ok}
use Rattle.ci_machine_steps.specs.Prelude.{sweep}
use Rattle.ci_server_lookups.proofs.Loading.{leads}
use Rattle.ci_server_events.proofs.Acting.{redundant_planned}
use Rattle.ci_server_events.proofs.acts.cancel_redundant.Goals as goal

-- the jobs that can be cancelled are
pub returns : goal.returns
returns g c =
    let p = c.args.pipeline.now in
    let w = c.in_ok-whole.whole in
    let d = c.in_ok-done.done in
    leads c.in_ok-whole.was c.whole_of.ensures
    (λ k y is whole kept.
    redundant_planned k kept p.id w (whole kept) d.outcome d.indexes.items d.claims.items (c.in_ok-done.ensures.done k p.id kept (whole kept)) d.chosen.items c.in_ok-done.ensures.chosen c.acted_jobs_are_asked.ensures.all
    c.acts_settle.ensures.cancel c.acts_are_of_records.ensures.cancel p c.in_ok-plan.plan (c.in_ok-plan.ensures ∙ (λ i. sweep None (Some p) (c.as_slice.ensures.value i) (c.as_slice-2.ensures.value i)))
    (IfOk-at_ok _ is c.with.ensures.planned) c.into_beside.ensures.rows (ap (λ v. v.items) c.into_beside.ensures.indexes))
