use Rattle.std.proofs.Common.{◌≡◌, ℕ, List, Option, Some, None, Result, Ok, Err, subst, ap, ◌∙◌}
use Rattle.ci_machine_steps.specs.Prelude.{Variable, NewPipeline, claims_in, pipeline_created, project_variables}
use Rattle.ci_machine_pipelines.specs.declared.creation.Creation.{Creation}
use Rattle.ci_machine_pipelines.specs.declared.files.FileFault.{FileFault}
use Rattle.ci_machine_pipelines.specs.declared.files.FileFault.TheVariants.{Fault}
use Rattle.ci_machine_pipelines.specs.Creations.{origin, creation_view, LaysOut}
use Rattle.ci_server_events.specs.Creating.{rows_beside}
use Rattle.ci_server_lookups.proofs.Loading.{both_yield, continues, joined}
use Rattle.ci_server_events.proofs.Creating.{creation_planned}
use Rattle.ci_server_events.proofs.pipelines.create_by.Goals as goal

-- what a text lays out by what was looked up it lays out by what the state has
out_with : (new : NewPipeline) (now : ℕ) {text read : List ℕ} {vs seen : List Variable} {p first next_pipeline next_job : ℕ} {r said : Result (Option Creation) FileFault}
    → read ≡ text → seen ≡ vs → p ≡ next_pipeline → first ≡ next_job → r ≡ said → LaysOut read (origin p first new seen now) r → LaysOut text (origin next_pipeline next_job new vs now) said
out_with new now {text = text} {read = read} {vs = vs} {seen = seen} {p = p} {first = first} {next_pipeline = next_pipeline} {next_job = next_job} {said = said} same same_variables same_pipeline same_job is out =
    subst (λ (t : List ℕ). LaysOut t (origin next_pipeline next_job new vs now) said) same
    (subst (λ (ws : List Variable). LaysOut read (origin next_pipeline next_job new ws now) said) same_variables
    (subst (λ (n : ℕ). LaysOut read (origin n next_job new seen now) said) same_pipeline
    (subst (λ (n : ℕ). LaysOut read (origin p n new seen now) said) same_job
    (subst (λ (z : Result (Option Creation) FileFault). LaysOut read (origin p first new seen now) z) is out))))

-- what the file lays out is made
pub returns-in-Ok-Some : goal.returns-in-Ok-Some
returns-in-Ok-Some g c =
    let new = c.args.new.now in
    let it = c.in-Ok-Some.creation in
    continues c.in_ok-variables.was c.variables_of.ensures (joined c.in_ok-pipeline.was c.next.ensures (joined c.in_ok-job.was c.next-2.ensures c.made.ensures))
    (λ k y is variables more kept.
    let said : c.lay_out.result ≡ Ok (Some it) = c.in-Ok-Some.is ∙ ap (λ (o : Option Creation). Ok o) c.in-Ok-Some.field-0-is in
    let out = out_with new c.args.now c.as_str.ensures (c.as_slice.ensures.value ∙ variables) more.0 more.1.0 said c.lay_out.ensures.records in
    let made = more.1.1 kept in
    creation_planned k kept c.args.text.now new (project_variables k.state new.project) c.args.now c.laid_out_creates.ensures.made c.created_is_made.ensures c.creation_is_indexed.ensures c.creation_is_shown.ensures.rows c.creation_is_shown.ensures.claims it y out made.0 made.1
    (made.2 ∙ ap (λ (n : ℕ). pipeline_created n (creation_view it) (claims_in k.state k.board it.pipeline.id) (rows_beside y.beside)) more.1.0))

-- there are no numbers for what the file lays out, and nothing changes
pub returns-in-Ok-None : goal.returns-in-Ok-None
returns-in-Ok-None g c =
    let made = c.refused in
    let new = c.args.new.now in
    both_yield c.in_ok-pipeline.was c.in_ok-job.was (joined c.in_ok-variables.was c.variables_of.ensures c.next.ensures) c.next-2.ensures
    (λ k known job kept.
    let said : c.lay_out.result ≡ Ok None = c.in-Ok-None.is ∙ ap (λ (o : Option Creation). Ok o) c.in-Ok-None.field-0-is in
    let out = out_with new c.args.now c.as_str.ensures (c.as_slice.ensures.value ∙ known.0) known.1 job said c.lay_out.ensures.records in
    record {
      made = c.laid_out_creates.ensures.lacking k.state c.args.text.now new (project_variables k.state new.project) c.args.now (made.result.answer, made.result.changes) out made.ensures.plan;
      settled = made.ensures.settled k kept;
    })

-- the file has a fault, and nothing changes
pub returns-in-Err-Fault : goal.returns-in-Err-Fault
returns-in-Err-Fault g c =
    let made = c.unchanged in
    let new = c.args.new.now in
    let detail = c.in-Err-Fault.detail in
    both_yield c.in_ok-pipeline.was c.in_ok-job.was (joined c.in_ok-variables.was c.variables_of.ensures c.next.ensures) c.next-2.ensures
    (λ k known job kept.
    let said : c.lay_out.result ≡ Err (Fault detail) = c.in-Err-Fault.is ∙ ap (λ (f : FileFault). Err f) c.in-Err-Fault.field-0-is in
    let out = out_with new c.args.now c.as_str.ensures (c.as_slice.ensures.value ∙ known.0) known.1 job said c.lay_out.ensures.records in
    record {
      made = c.laid_out_creates.ensures.faulty k.state c.args.text.now new (project_variables k.state new.project) c.args.now detail (made.result.answer, made.result.changes) out (made.ensures.plan ∙ c.in_ok-plan-in-Err-Fault.ensures);
      settled = made.ensures.settled k kept;
    })
