-- What a question names, by what was looked up and lent.
use Rattle.std.proofs.Common.{◌≡◌, ℕ, List, Option, Result, Ok, Err, sym, ap, subst, ◌∙◌}
use Rattle.std.specs.Borrow.{Bor}
use Rattle.std.specs.Result.{result_map_both}
use Rattle.ci_machine_steps.specs.Prelude.{Job, Pipeline, Project, Code, JobQuery, Reply, State, Kept, Plan, asked_job, asked_pipeline, asked_project, found_job, project_with, job_at, pipeline_at, pipeline_of}
use Rattle.ci_server_lookups.specs.Prelude.{StoreFault, IsKept}
use Rattle.ci_store.specs.Prelude.{LoadsBy}
use Rattle.ci_server_lookups.proofs.Loading.{continues}
use Rattle.ci_server_events.specs.declared.planned.Planned.{Planned}
use Rattle.ci_server_events.specs.declared.shows.Named.{Named}
use Rattle.ci_server_events.specs.Planning.{PlansFor}

-- what was lent is what was found
pub lent : {A : Type 0} {r : Result (Bor A) Code} {found : Result A Code} {x : Bor A} → result_map_both (λ y. y.now) (λ e. e) r ≡ found → r ≡ Ok x → found ≡ Ok x.now
lent {A = A} is at = sym is ∙ ap (result_map_both (λ (y : Bor A). y.now) (λ (e : Code). e)) at

pub unlent : {A : Type 0} {r : Result (Bor A) Code} {found : Result A Code} {code : Code} → result_map_both (λ y. y.now) (λ e. e) r ≡ found → r ≡ Err code → found ≡ Err code
unlent {A = A} is at = sym is ∙ ap (result_map_both (λ (y : Bor A). y.now) (λ (e : Code). e)) at

-- the job that a query names
pub job_asked : (s : State) (query : JobQuery) {n : Named} {found : Result Job Code} → n ≡ record { project = project_with s query.token; job = job_at s query.job; pipeline = pipeline_of s (job_at s query.job) }
    → asked_job n.project n.job n.pipeline query ≡ found → found_job s query ≡ found
job_asked s query named is = sym (ap (λ (n : Named). asked_job n.project n.job n.pipeline query) named) ∙ is

-- the pipeline
pub pipeline_asked : (s : State) (token : List ℕ) (project number : ℕ) {o : Option Project} {p : Option Pipeline} {found : Result Pipeline Code} → o ≡ project_with s token → p ≡ pipeline_at s number
    → asked_pipeline (asked_project o project) p ≡ found → asked_pipeline (asked_project (project_with s token) project) (pipeline_at s number) ≡ found
pipeline_asked s token project number same there is = (λ i. asked_pipeline (asked_project (sym same i) project) (sym there i)) ∙ is

-- what is planned for the project that was found is planned for the one that is named
pub project_asked : {T : Type 0} {honest : T → Type 0} {holds : T → Kept → Type 0} {leaves : T → Kept → Kept → Type 0} {a b c : T} {first : Result (Option Project) StoreFault} {o : Option Project} {r : Result (Planned Reply) StoreFault}
    {asked : Result (Bor Project) Code} {found : Bor Project} (Makes : Kept → Result Project Code → Plan → Type 0) (token : List ℕ) (project : ℕ) → first ≡ Ok o → LoadsBy honest holds leaves a b first (λ k p. p ≡ project_with k.state token)
    → result_map_both (λ p. p.now) (λ e. e) asked ≡ asked_project o project → asked ≡ Ok found → LoadsBy honest holds leaves b c r (λ k p. IsKept k → PlansFor k (Makes k (Ok found.now) (p.answer, p.changes)) p)
    → LoadsBy honest holds leaves a c r (λ k p. IsKept k → PlansFor k (Makes k (asked_project (project_with k.state token) project) (p.answer, p.changes)) p)
project_asked Makes token project was load is at plans =
    continues was load plans (λ k y _ same planned kept.
    subst (λ (q : Result Project Code). PlansFor k (Makes k q (y.answer, y.changes)) y) (sym (ap (λ (p : Option Project). asked_project p project) (sym same) ∙ lent is at)) (planned kept))
