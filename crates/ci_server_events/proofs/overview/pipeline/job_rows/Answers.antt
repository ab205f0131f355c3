use Rattle.std.proofs.Common.{List, length, get_or, filter, ◌==◌, ap, ◌∙◌}
use Rattle.std.proofs.lemmas.List.{get_or-map}
use Rattle.ci_board.specs.Prelude.{no_row}
use Rattle.ci_machine_steps.specs.Prelude.{Attempt, Job, Row, row_for, shown_status}
use Rattle.ci_server_events.proofs.Further.{pushed_further}
use Rattle.ci_server_events.specs.Told.{job_told}
use Rattle.ci_server_events.proofs.overview.pipeline.job_rows.Goals as goal

-- the next job is told behind those before it, with the status of its row
pub loop-i-preserved : goal.loop-i-preserved
loop-i-preserved c = λ board are.
    let j = c.index-jobs-i.result in
    let jobs = c.args.jobs.now in
    let row = ap (λ (rs : List Row). get_or rs c.loop-i.i no_row) are ∙ get_or-map (λ (j : Job). row_for board j.id) jobs c.loop-i.i j no_row c.loop-i-test.true in
    pushed_further (job_told c.args.claims.now c.args.project c.args.attempts.now board) jobs j _ c.loop-i-test.true c.in_ok-push.ensures.items
    (λ k. record {
      job = (c.index-jobs-i.is k).id;
      status = (c.of.ensures.shown ∙ λ i. shown_status c.args.claims.now c.args.project (c.index-jobs-i.is i) (row i).status) k;
      tries = (c.attempts_of.ensures ∙ λ i. length (filter (λ (a : Attempt). a.job == (c.index-jobs-i.is i).id) c.args.attempts.now)) k;
      name = (c.in_ok-clone.ensures.cases ∙ λ i. (c.index-jobs-i.is i).name) k;
    })
    (c.loop-i.invariant board are)
