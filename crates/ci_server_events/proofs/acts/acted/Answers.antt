use Rattle.std.proofs.Common.{◌≡◌, [], ◌∷◌, slice_index_or, ap, ◌∙◌}
use Rattle.std.proofs.lemmas.Result.{IfOk-at_ok}
use Rattle.ci_machine_steps.specs.Prelude.{Row, refused, job_shown}
use Rattle.ci_board.specs.Prelude.{row_at}
use Rattle.ci_server_lookups.specs.Prelude.{act_changes}
use Rattle.ci_server_events.specs.Acting.{changes_by}
use Rattle.ci_server_lookups.proofs.Loading.{on_ok}
use Rattle.ci_server_events.proofs.Acting.{changes_are, job_planned, job_refused, not_empty, is_empty, status_at}
use Rattle.ci_server_events.proofs.acts.acted.Goals as goal

-- its status doesn't permit it
pub returns-then-is_empty : goal.returns-then-is_empty
returns-then-is_empty c = λ k kept has whole.
    let job = c.args.job.now in
    let d = c.in_ok-done.done in
    let made = c.refused in
    record {
      made = job_refused k kept c.args.act job has c.args.whole.now whole d.outcome d.indexes.items d.claims.items (c.in_ok-done.ensures.done k job.pipeline kept whole) c.acted_jobs_are_asked.ensures.one
          (is_empty _ _ c.is_empty.result c.is_empty.ensures c.if-is_empty.true d.outcome.places.ok.0) (made.result.answer, made.result.changes) (made.ensures.plan ∙ ap refused c.refusal_of.ensures);
      settled = made.ensures.settled k kept;
    }

-- it is done to the job
pub returns : goal.returns
returns c =
    let job = c.args.job.now in
    let w = c.args.whole.now in
    let d = c.in_ok-done.done in
    let o = d.outcome in
    let plan = c.in_ok-plan.plan in
    let some = not_empty _ _ c.is_empty.result c.is_empty.ensures c.if-is_empty.false o.places.ok.0 in
    on_ok c.with.result (λ y is k kept has whole.
    let after : c.index-2.result.now.status ≡ (row_at o.rows.items (slice_index_or o.places.items 0 0)).status =
    ap (λ (r : Row). r.status) (status_at o _ c.index.result.now c.index-2.result.now some c.in_ok-done.ensures.places c.in_ok-done.ensures.long.1 c.index.ensures c.index-2.ensures) in
    let changes : changes_by c.args.act w.records.attempts.items job ≡ act_changes c.args.act k.state (job ∷ []) =
    changes_are c.acts_settle.ensures.play c.acts_are_of_records.ensures.retry c.acts_are_of_records.ensures.cancel c.args.act k job w.records whole.records has in
    job_planned k kept c.args.act job has w whole o d.indexes.items d.claims.items (c.in_ok-done.ensures.done k job.pipeline kept whole) c.acted_jobs_are_asked.ensures.one c.outcomes_are_shown.ensures.job some plan
    (c.in_ok-plan.ensures ∙ (λ i. ((job_shown (c.as_slice.ensures.value i) w.pipeline.project job (after i)).0, changes i)))
    (IfOk-at_ok _ is c.with.ensures.planned) c.into_beside.ensures.rows (ap (λ v. v.items) c.into_beside.ensures.indexes))
