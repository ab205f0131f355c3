-- What is shown by the claims that were looked up is what is shown by those of the state.
use Rattle.std.proofs.Common.{◌≡◌, ℕ, List, [], ◌∷◌, if◌then◌else◌, codes, length, replicate, refl, ap, inl, inr}
use Rattle.serde_json.specs.Data.{Data, array, object, member, no_members, string, number, unsigned}
use Rattle.serde_json.specs.View.{items_of}
use Rattle.serde_json.specs.Written.{compact_text}
use Rattle.ci_machine_steps.specs.Prelude.{no_facts, status_text, Facts, Row, Status, Claim, Job, Pipeline, Json, source_text, printed_status, job_data, jobs_data, status_of_jobs}
use Rattle.ci_machine_steps.specs.Prelude.{pipeline_data, is_free, Creation, creation_changes, pipeline_created, created, fine, job_shown, pipeline_shown}
use Rattle.ci_machine.proofs.Keyed.{Has, has_from_all}
use Rattle.ci_server_lookups.specs.Prelude.{FreeAlike}

module _ (cs ds : List Claim) (project : ℕ) where
  -- by both the job's group is free, or by neither
  abbrev IsAlike : Job → Type 0
  IsAlike j = is_free cs project j.options.resource_group ≡ is_free ds project j.options.resource_group

  -- the status of a job is printed alike
  pub printed_alike : (j : Job) (s : Status) → IsAlike j → printed_status cs project j s ≡ printed_status ds project j s
  printed_alike j Status.Pending same = ap (λ b. if b then status_text Status.Pending else codes "waiting_for_resource") same
  printed_alike j _ same = refl

  jobs_alike : (js : List Job) (rows : List Row) → ((j : Job) → Has j js → IsAlike j) → jobs_data cs project js rows ≡ jobs_data ds project js rows
  jobs_alike [] rows same = refl
  jobs_alike (j ∷ js) [] same = refl
  jobs_alike (j ∷ js) (r ∷ rows) same = λ i. job_data (printed_alike j r.status (same j (inl refl)) i) j ∷ jobs_alike js rows (λ k h. same k (inr h)) i

  -- the job is shown alike
  pub job_alike : (j : Job) (s : Status) → FreeAlike cs ds project (j ∷ []) → job_shown cs project j s ≡ job_shown ds project j s
  job_alike j s same = ap (λ (text : List ℕ). (fine (Json (compact_text (job_data text j))), [])) (printed_alike j s (has_from_all IsAlike j (j ∷ []) same (inl refl)))

  jobs_said : (js : List Job) (rows : List Row) → FreeAlike cs ds project js → jobs_data cs project js rows ≡ jobs_data ds project js rows
  jobs_said js rows same = jobs_alike js rows (λ j h. has_from_all IsAlike j js same h)

-- a pipeline with what is said of its jobs
abbrev said : Pipeline → List Data → List ℕ → Data
said p jobs status =
    object (member (codes "id") (number (unsigned p.id))
    (member (codes "jobs") (array (items_of jobs))
    (member (codes "ref") (string p.git_ref)
    (member (codes "source") (string (source_text p.source))
    (member (codes "status") (string status) no_members)))))

module _ (cs ds : List Claim) (p : Pipeline) (js : List Job) (same : FreeAlike cs ds p.project js) where
  data_alike : (facts : List Facts) (rows : List Row) → pipeline_data p cs js facts rows ≡ pipeline_data p ds js facts rows
  data_alike facts rows = ap (λ (ds : List Data). said p ds (status_text (status_of_jobs js facts rows))) (jobs_said cs ds p.project js rows same)

  -- the pipeline is shown alike
  pub pipeline_alike : (facts : List Facts) (rows : List Row) → pipeline_shown p cs js facts rows ≡ pipeline_shown p ds js facts rows
  pipeline_alike facts rows = ap (λ (d : Data). (fine (Json (compact_text d)), [])) (data_alike facts rows)

-- and where it is made
pub created_alike : (first : ℕ) (made : Creation) (cs ds : List Claim) (rows : List Row) → FreeAlike cs ds made.pipeline.project made.jobs → pipeline_created first made cs rows ≡ pipeline_created first made ds rows
created_alike first made cs ds rows same =
    ap (λ (d : Data). (created (compact_text d), creation_changes first made)) (data_alike cs ds made.pipeline made.jobs same (replicate (length made.jobs) no_facts) rows)
