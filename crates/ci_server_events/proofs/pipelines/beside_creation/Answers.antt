use Rattle.std.proofs.Common.{◌≡◌, List, IfOk, map, length, replicate, option_to_list, subst, sym, ap, ◌∙◌}
use Rattle.std.proofs.lemmas.List.{length-map}
use Rattle.ci_machine_steps.specs.Prelude.{no_facts, Status, BoardRow, Job, Need, status_of_jobs}
use Rattle.ci_server_lookups.specs.Prelude.{opened}
use Rattle.ci_server_events.specs.Creating.{RowsMade}
use Rattle.ci_server_events.proofs.pipelines.beside_creation.Goals as goal

-- there is a row for each job
pub status-requires : goal.status-requires
status-requires c =
    let rows = c.in_ok-rows.rows.items in
    let keys = subst (λ z. IfOk z (λ v. map (λ r. r.job) v.items ≡ map (λ j. j.id) c.as_slice-jobs.result.now)) c.in_ok-rows.ensures.answer c.rows_of_creation.ensures.jobs in
    ap length c.as_slice-2.ensures.value
    ∙ (sym (length-map rows (λ (r : BoardRow). r.job)) ∙ (ap length keys ∙ (length-map c.as_slice-jobs.result.now (λ (j : Job). j.id) ∙ ap length c.as_slice-jobs.ensures.value)))

-- the rows are those of its jobs, and its status is by them
pub returns : goal.returns
returns c =
    let it = c.args.creation.now in
    let jobs = c.as_slice-jobs in
    let needs = c.as_slice in
    let keys = subst (λ z. IfOk z (λ v. map (λ r. r.job) v.items ≡ map (λ j. j.id) jobs.result.now)) c.in_ok-rows.ensures.answer c.rows_of_creation.ensures.jobs in
    let board = subst (λ z. IfOk z (λ v. RowsMade jobs.result.now needs.result.now v.items)) c.in_ok-rows.ensures.answer c.rows_of_creation.ensures.board in
    let rows = c.in_ok-rows.rows.items in
    record {
      keys = keys ∙ ap (map (λ (j : Job). j.id)) jobs.ensures.value;
      board = subst (λ (ns : List Need). RowsMade it.jobs.items ns rows) needs.ensures.value (subst (λ (js : List Job). RowsMade js needs.result.now rows) jobs.ensures.value board);
      indexes = c.in_ok-indexes.ensures
          ∙ (ap option_to_list c.opened.ensures
          ∙ ap (λ (s : Status). option_to_list (opened it.pipeline.id s))
          (c.in_ok-status.ensures ∙ ap (λ (rs : List BoardRow). status_of_jobs it.jobs.items (replicate (length it.jobs.items) no_facts) (map (λ r. r.row) rs)) c.as_slice-2.ensures.value));
    }
