use Rattle.std.proofs.Common.{◌∙◌, refl, sym, ap, map}
use Rattle.ci_machine_steps.specs.Prelude.{Job, status_of_jobs, row_for}
use Rattle.ci_server_events.specs.Told.{job_told}
use Rattle.ci_server_events.proofs.Found.{passed_on}
use Rattle.ci_server_events.proofs.Settles.{of_slices}
use Rattle.ci_server_events.proofs.ReportJobs.{status_told, jobs_told, rows_told}
use Rattle.ci_server_events.proofs.overview.pipeline.told.Goals as goal

pub returns-clause-told : goal.returns-clause-told
returns-clause-told c = λ k id kept whole.
    let w = c.args.whole.now in
    let jobs = c.as_slice-jobs.ensures.value in
    let are = of_slices jobs refl c.as_slice-attempts.ensures.value c.as_slice.ensures.value whole.records in
    let facts = c.in_ok-facts.ensures.facts k.state k.board id _ kept.sound kept.are_board are in
    let rows = c.in_ok-facts.ensures.rows k.state k.board id _ kept.sound kept.are_board are in
    let claims = c.as_slice-4.ensures.value ∙ c.in_ok-claims.ensures in
    let attempts = c.as_slice-attempts.ensures.value in
    let its_rows = c.as_slice-5.ensures.value ∙ rows_told k id w whole _ rows ∙ ap (map (λ (j : Job). row_for k.board j.id)) (sym jobs) in (
      c.in_ok-status.ensures ∙ (λ i. status_of_jobs (jobs i) (c.as_slice-2.ensures.value i) (c.as_slice-3.ensures.value i)) ∙ status_told k id w whole _ _ facts rows,
      c.in_ok-told.ensures k.board its_rows ∙ (λ i. map (job_told (claims i) w.pipeline.project (attempts i) k.board) (jobs i)) ∙ jobs_told k id w whole,
    )

pub returns-in_err-facts-clause-fault : goal.returns-in_err-facts-clause-fault
returns-in_err-facts-clause-fault c =
    passed_on c.from_residual-in_err-facts.result c.in_err-facts.field-0.0 _ c.from_residual-in_err-facts.ensures.1 (λ k id kept whole.
    c.in_err-facts.ensures.fault k.state k.board id _ kept.sound kept.are_board (of_slices c.as_slice-jobs.ensures.value refl c.as_slice-attempts.ensures.value c.as_slice.ensures.value whole.records))
