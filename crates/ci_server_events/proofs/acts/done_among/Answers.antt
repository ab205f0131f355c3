use Rattle.std.proofs.Common.{◌<◌, List, ◌++◌, length, map, All, slice_index_or, refl, subst, sym, ap, ◌∙◌}
use Rattle.ci_machine_steps.specs.Prelude.{Job, status_of_jobs, facts_of, rows_of, held_claim}
use Rattle.ci_server_lookups.specs.Prelude.{of_pipeline, unleased, still_held}
use Rattle.ci_server_events.proofs.Acting.{done_is}
use Rattle.ci_server_events.proofs.Settles.{of_slices}
use Rattle.ci_server_events.proofs.acts.done_among.Goals as goal

-- the jobs stand at these places
pub jobs_at-requires : goal.jobs_at-requires
jobs_at-requires c =
    subst (λ (places : List _). All (λ place. place < length c.as_slice-jobs.result.now) places) (sym c.as_slice-2.ensures.value)
    (subst (λ (jobs : List Job). All (λ place. place < length jobs) c.in_ok-outcome.outcome.places.items) (sym c.as_slice-jobs.ensures.value) c.in_ok-outcome.ensures.places)

-- there are as many facts and rows as jobs
pub status_of-requires-clause-facts : goal.status_of-requires-clause-facts
status_of-requires-clause-facts c = ap length c.as_slice-3.ensures.value ∙ (c.in_ok-outcome.ensures.long.0 ∙ ap length (sym c.as_slice-jobs.ensures.value))

pub status_of-requires-clause-rows : goal.status_of-requires-clause-rows
status_of-requires-clause-rows c = ap length c.as_slice-4.ensures.value ∙ (c.in_ok-outcome.ensures.long.1 ∙ ap length (sym c.as_slice-jobs.ensures.value))

pub returns-clause-chosen : goal.returns-clause-chosen
returns-clause-chosen c = λ other. c.in_ok-chosen.ensures other ∙ (λ i. map (λ place. slice_index_or (c.as_slice-jobs.ensures.value i) place other) (c.as_slice-2.ensures.value i))

-- what was looked up gives what becomes of the pipeline
pub returns-clause-done : goal.returns-clause-done
returns-clause-done c = λ k n kept whole.
    let w = c.args.whole.now in
    let o = c.in_ok-outcome.outcome in
    let chosen = c.in_ok-chosen.chosen in
    done_is c.acts_are_indexed.ensures c.acts_leave_lines.ensures c.args.act c.args.only k n w o chosen.items c.in_ok-before.before c.in_ok-then.then c.in_ok-indexes.indexes.items c.in_ok-claims.claims.items kept whole
    (c.in_ok-outcome.ensures.outcome k.state k.board n kept.sound kept.are_board whole.records)
    (λ other. c.in_ok-chosen.ensures other ∙ (λ i. map (λ place. slice_index_or (c.as_slice-jobs.ensures.value i) place other) (c.as_slice-2.ensures.value i)))
    (c.in_ok-before.ensures.status k n w.records.needs.items kept (of_slices c.as_slice-jobs.ensures.value refl c.as_slice-attempts.ensures.value c.as_slice.ensures.value whole.records)
    ∙ ap (λ (js : List Job). status_of_jobs js (facts_of k.state n) (rows_of k.state k.board n)) (c.as_slice-jobs.ensures.value ∙ whole.records.are_jobs))
    (c.in_ok-then.ensures ∙ (λ i. status_of_jobs (c.as_slice-jobs.ensures.value i) (c.as_slice-3.ensures.value i) (c.as_slice-4.ensures.value i)))
    (c.in_ok-indexes.ensures
    ∙ (λ i. of_pipeline w.pipeline ((c.unleased.ensures ∙ ap (unleased c.args.act) c.as_slice-5.ensures.value) i) (c.as_slice-attempts.ensures.value i) c.in_ok-before.before c.in_ok-then.then))
    (c.in_ok-claims.ensures ∙ (λ i. map held_claim (still_held (c.as_slice-6.ensures.value i) w.held.items) ++ w.ahead.items))
