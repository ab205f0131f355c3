use Rattle.std.proofs.Common.{◌≡◌, ℕ, List, Ok, Err, Option, Result, subst, sym, ap, ◌∙◌}
use Rattle.std.specs.Borrow.{Bor}
use Rattle.std.specs.Result.{result_map_both}
use Rattle.std.proofs.lemmas.Result.{IfOk-at_ok}
use Rattle.ci_machine_steps.specs.Prelude.{Project, given_by, may_create, Creates, Plan, asked_project, project_with, project_variables}
use Rattle.ci_machine_plans.specs.Refusals.{unmade}
use Rattle.ci_server_events.specs.Planning.{PlansFor}
use Rattle.ci_server_lookups.proofs.Loading.{continues, yields}
use Rattle.ci_server_events.proofs.Leaving.{refusals_change_nothing}
use Rattle.ci_server_events.proofs.pipelines.create_pipeline.Goals as goal

-- the project that was looked up has the file by which the pipeline is made
pub returns-in-Ok : goal.returns-in-Ok
returns-in-Ok g c =
    let r = c.create_by.result in
    let new = c.args.new.now in
    continues c.in_ok-project.was c.project_with.ensures c.create_by.ensures
    (λ k y is project planned kept.
    let file : may_create (asked_project (project_with k.state new.token) new.project) new ≡ Ok c.in-Ok.text.now =
    ap (λ (o : Option Project). may_create (asked_project o new.project) new) (sym project) ∙ (sym c.file_for.ensures ∙ ap (result_map_both (λ (t : Bor (List ℕ)). t.now) unmade) c.in-Ok.is) in
    subst (λ (w : Result (List ℕ) Plan). PlansFor k (Creates k.state new (given_by new (project_variables k.state new.project)) c.args.now w (y.answer, y.changes)) y)
    (sym file) (planned kept))

pub unchanged-requires : goal.unchanged-requires
unchanged-requires g c = ap (λ (p : Plan). p.1) (IfOk-at_ok _ c.in_ok-plan-in-Err.was c.unmade.ensures) ∙ refusals_change_nothing c.in-Err.refusal

-- it is refused before its file is read
pub returns : goal.returns
returns g c =
    let new = c.args.new.now in
    let made = c.unchanged in
    let refuses = made.ensures.plan ∙ IfOk-at_ok _ c.in_ok-plan-in-Err.was c.unmade.ensures in
    yields c.in_ok-project.was c.project_with.ensures
    (λ k project kept.
    let refused : may_create (asked_project (project_with k.state new.token) new.project) new ≡ Err (unmade c.in-Err.refusal) =
    ap (λ (o : Option Project). may_create (asked_project o new.project) new) (sym project) ∙ (sym c.file_for.ensures ∙ ap (result_map_both (λ (t : Bor (List ℕ)). t.now) unmade) c.in-Err.is) in
    record {
      made = subst (λ (w : Result (List ℕ) Plan). Creates k.state new (given_by new (project_variables k.state new.project)) c.args.now w (made.result.answer, made.result.changes)) (sym refused) refuses;
      settled = made.ensures.settled k kept;
    })
