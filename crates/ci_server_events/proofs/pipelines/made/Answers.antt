use Rattle.std.proofs.Common.{◌≡◌, List, length, map, subst, sym, ap, ◌∙◌}
use Rattle.std.proofs.lemmas.List.{length-map}
use Rattle.std.proofs.lemmas.Result.{IfOk-at_ok}
use Rattle.ci_machine_steps.specs.Prelude.{BoardRow, Claim, Job, claims_in, pipeline_created}
use Rattle.ci_machine_pipelines.specs.Creations.{creation_view}
use Rattle.ci_server_lookups.specs.Prelude.{FreeAlike}
use Rattle.ci_server_lookups.proofs.Loading.{leads}
use Rattle.ci_server_events.specs.declared.planned.Beside.{Beside}
use Rattle.ci_server_events.specs.Creating.{rows_beside, IsMadeBeside}
use Rattle.ci_server_events.proofs.Found.{ok_is}
use Rattle.ci_server_events.proofs.Showing.{created_alike}
use Rattle.ci_server_events.proofs.pipelines.made.Goals as goal

-- there is a row for each job
pub into_plan-requires-clause-rows : goal.into_plan-requires-clause-rows
into_plan-requires-clause-rows g c =
    let rows = c.in_ok-beside.beside.rows.items in
    let jobs = c.args.creation.jobs.items in
    ap length c.as_slice-3.ensures.value ∙ (sym (length-map rows (λ (r : BoardRow). r.job)) ∙ (ap length c.in_ok-beside.ensures.keys ∙ length-map jobs (λ (j : Job). j.id)))

-- the reply shows the rows that are put, and by the claims that were looked up what those of the state show
pub returns : goal.returns
returns g c =
    let it = c.args.creation in
    let claims = c.in_ok-claims.claims in
    let beside = c.in_ok-beside.beside in
    let plan = c.in_ok-plan.plan in
    leads c.in_ok-claims.was c.claims_on.ensures
    (λ k y is alike kept.
    let w = IfOk-at_ok _ is c.with.ensures.planned in
    let its = claims_in k.state k.board it.pipeline.id in
    let same : FreeAlike claims.items its it.pipeline.project it.jobs.items = subst (λ (js : List Job). FreeAlike claims.items its it.pipeline.project js) c.as_slice.ensures.value (alike kept) in
    let shown : plan ≡ pipeline_created c.args.first (creation_view it) its (rows_beside beside) =
    c.in_ok-plan.ensures
    ∙ (ap (λ (cs : List Claim). pipeline_created c.args.first (creation_view it) cs (map (λ r. r.row) c.as_slice-3.result.now)) c.as_slice-2.ensures.value
    ∙ (ap (λ (rs : List BoardRow). pipeline_created c.args.first (creation_view it) claims.items (map (λ r. r.row) rs)) c.as_slice-3.ensures.value
    ∙ created_alike c.args.first (creation_view it) claims.items its (rows_beside beside) same)) in
    let put = subst (λ (b : Beside). IsMadeBeside it b × ((y.answer, y.changes) ≡ pipeline_created c.args.first (creation_view it) its (rows_beside b))) (ok_is beside y.beside w.2)
    (c.in_ok-beside.ensures, w.0 ∙ shown) in
    (w.1, put.0, put.1))
