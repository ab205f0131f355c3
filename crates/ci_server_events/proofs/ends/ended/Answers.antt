use Rattle.std.proofs.Common.{◌≡◌, ◌==◌, List, [], ◌∷◌, find, Some, refl, sym, ap, subst, ◌∙◌}
use Rattle.std.proofs.lemmas.Result.{IfOk-at_ok}
use Rattle.ci_machine_steps.specs.Prelude.{status_of_jobs, facts_of, rows_of, Job}
use Rattle.ci_server_lookups.specs.Prelude.{IsGraphOf, of_pipeline, AreOf}
use Rattle.ci_server_lookups.specs.declared.sheet.Sheet.{Sheet}
use Rattle.ci_server_events.specs.declared.planned.Beside.{Beside}
use Rattle.ci_server_events.proofs.Settles.{of_slices, end_settles}
use Rattle.ci_server_events.proofs.Sheets.{records_in, its_records, graph_stays, with_graph}
use Rattle.ci_server_events.proofs.ends.ended.Goals as goal

-- the graph that the end hands on is that of the jobs still
pub returns-clause-kept : goal.returns-clause-kept
returns-clause-kept c = λ k right.
    let m = c.args.sheet in
    let e = c.in_ok-ended.ended in
    let of = c.in_ok-graph.ensures.graph k right in
    with_graph k m c.take_graph.new.sheet e.graph c.in_ok-graph.ensures.sheet
    (graph_stays c.in_ok-graph.graph e.graph m (IfOk-at_ok _ c.in_ok-ended.ensures.answer c.end_of.ensures.graph) of) right

-- the rows that were made of the records settle the end, and so do the indexes
pub returns-clause-settled : goal.returns-clause-settled
returns-clause-settled c = λ k kept there right number live over.
    let m = c.args.sheet in
    let t = c.take_graph.new.sheet in
    let p = c.args.pipeline.now in
    let e = c.in_ok-ended.ended in
    let same = c.in_ok-graph.ensures.sheet in
    let answer = c.in_ok-ended.ensures.answer in
    let jobs : c.as_slice.result.now ≡ m.jobs.items = c.as_slice.ensures.value ∙ ap (λ (x : Sheet). x.jobs.items) same in
    let attempts : c.as_slice-2.result.now ≡ m.attempts.items = c.as_slice-2.ensures.value ∙ ap (λ (x : Sheet). x.attempts.items) same in
    let rows : c.as_slice-3.result.now ≡ m.rows.items = c.as_slice-3.ensures.value ∙ ap (λ (x : Sheet). x.rows.items) same in
    let records : AreOf k p.id (records_in m) = subst (λ n. AreOf k n (records_in m)) number (its_records k m right) in
    let are = of_slices jobs refl attempts rows records in
    let of : IsGraphOf c.in_ok-graph.graph c.as_slice.result.now m.needs.items
    = subst (λ (js : List Job). IsGraphOf c.in_ok-graph.graph js m.needs.items) (sym jobs) (c.in_ok-graph.ensures.graph k right) in
    let settled = IfOk-at_ok _ answer c.end_of.ensures.settled k.state k.board p.id m.needs.items kept.sound kept.are_board are of live in
    let before = IfOk-at_ok _ answer c.end_of.ensures.before k.state k.board p.id m.needs.items kept.sound kept.are_board are of
    ∙ ap (λ (js : List Job). status_of_jobs js (facts_of k.state p.id) (rows_of k.state k.board p.id)) (jobs ∙ records.are_jobs) in
    let then = IfOk-at_ok _ answer c.end_of.ensures.then m.needs.items of ∙ ap (λ (js : List Job). status_of_jobs js e.settled.facts.items e.settled.rows.items) jobs in
    let its = c.in_ok-indexes.ensures in
    let job : find (λ j. j.id == c.args.after.now.job) m.jobs.items ≡ Some its.0 = subst (λ (x : Sheet). find (λ j. j.id == c.args.after.now.job) x.jobs.items ≡ Some its.0) same its.1 in
    let indexes = its.2 ∙ ap (λ (x : Sheet). of_pipeline p (its.0 ∷ []) x.attempts.items e.before e.then) same in
    let beside : Beside = record { rows = e.settled.changed; indexes = c.in_ok-indexes.indexes } in
    end_settles c.end_is_indexed.ensures k kept p (records_in m) c.args.after.now its.0 e.settled e.before e.then _ beside there records live over job settled before then indexes refl refl
