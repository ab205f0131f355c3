use Rattle.std.proofs.Common.{length, refl, sym, ap, ◌∙◌}
use Rattle.std.proofs.lemmas.Result.{IfOk-at_ok}
use Rattle.ci_machine_steps.specs.Prelude.{cancel, pipeline_shown}
use Rattle.ci_server_lookups.proofs.Loading.{on_ok}
use Rattle.ci_server_events.proofs.Acting.{pipeline_planned, pipeline_refused, not_empty, is_empty}
use Rattle.ci_server_events.proofs.acts.cancelled.Goals as goal

-- none can be cancelled
pub returns-then-is_empty : goal.returns-then-is_empty
returns-then-is_empty c = λ k kept whole.
    let w = c.args.whole.now in
    let p = w.pipeline in
    let d = c.in_ok-done.done in
    let made = c.refused in
    record {
      made = pipeline_refused k kept p.id w whole d.outcome d.indexes.items d.claims.items (c.in_ok-done.ensures.done k p.id kept whole) d.chosen.items c.in_ok-done.ensures.chosen c.acted_jobs_are_asked.ensures.all
          (is_empty _ _ c.is_empty.result c.is_empty.ensures c.if-is_empty.true d.chosen.ok.0) (made.result.answer, made.result.changes) made.ensures.plan;
      settled = made.ensures.settled k kept;
    }

-- there are as many facts and rows as jobs
pub cancel_jobs-requires-clause-facts : goal.cancel_jobs-requires-clause-facts
cancel_jobs-requires-clause-facts c = ap length c.as_slice-5.ensures.value ∙ (c.in_ok-done.ensures.long.0 ∙ ap length (sym c.as_slice-4.ensures.value))

pub cancel_jobs-requires-clause-rows : goal.cancel_jobs-requires-clause-rows
cancel_jobs-requires-clause-rows c = ap length c.as_slice-6.ensures.value ∙ (c.in_ok-done.ensures.long.1 ∙ ap length (sym c.as_slice-4.ensures.value))

-- the jobs that can be cancelled are
pub returns : goal.returns
returns c =
    let w = c.args.whole.now in
    let p = w.pipeline in
    let d = c.in_ok-done.done in
    let plan = c.in_ok-plan.plan in
    on_ok c.with.result (λ y is k kept whole.
    pipeline_planned k kept p.id w whole d.outcome d.indexes.items d.claims.items (c.in_ok-done.ensures.done k p.id kept whole) d.chosen.items c.in_ok-done.ensures.chosen c.acted_jobs_are_asked.ensures.all
    c.outcomes_are_shown.ensures.pipeline c.acts_settle.ensures.cancel c.acts_are_of_records.ensures.cancel refl (not_empty _ _ c.is_empty.result c.is_empty.ensures c.if-is_empty.false d.chosen.ok.0) plan
    (c.in_ok-plan.ensures
    ∙ (λ i. ((pipeline_shown p (c.as_slice-3.ensures.value i) (c.as_slice-4.ensures.value i) (c.as_slice-5.ensures.value i) (c.as_slice-6.ensures.value i)).0, cancel (c.as_slice.ensures.value i) (c.as_slice-2.ensures.value i))))
    (IfOk-at_ok _ is c.with.ensures.planned) c.into_beside.ensures.rows (ap (λ v. v.items) c.into_beside.ensures.indexes))
