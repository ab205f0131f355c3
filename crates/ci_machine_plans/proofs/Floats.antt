-- No body has a float.
use Rattle.std.proofs.Common.{◌≡◌, ◌||◌, ℕ, List, [], ◌∷◌, map, find, ◌==◌, Option, Some, None, false, refl, ap}
use Rattle.serde_json.specs.Data.{Data, string, number, unsigned}
use Rattle.serde_json.specs.View.{items_of}
use Rattle.serde_json.specs.Written.{has_float, items_have_float}
use Rattle.ci_machine_steps.specs.Prelude.{Attempt, Pipeline, Runner, Job, Need, Claim, JobVariable, QueuedJob, number_or_null, text_or_null, listed}
use Rattle.ci_machine_steps.specs.Prelude.{exit_of, reason_of, runner_or_null, attempt_data, attempts_among, needs_among, told_jobs, jobs_data, pipeline_data, variable_data}
use Rattle.ci_machine_steps.specs.Prelude.{granted_variables, grant_data, Facts, Row}

-- a list whose items have none has none
pub items : {A : Type 0} (data_of : A → Data) → ((x : A) → has_float (data_of x) ≡ false) → (xs : List A) → items_have_float (items_of (map data_of xs)) ≡ false
items data_of plain [] = refl
items data_of plain (x ∷ xs) = λ i. plain x i || items data_of plain xs i

jobs_have_none : (claims : List Claim) (project : ℕ) (jobs : List Job) (rows : List Row) → items_have_float (items_of (jobs_data claims project jobs rows)) ≡ false
jobs_have_none claims project [] rows = refl
jobs_have_none claims project (j ∷ js) [] = refl
jobs_have_none claims project (j ∷ js) (r ∷ rows) = jobs_have_none claims project js rows

pub pipeline_has_none : (p : Pipeline) (claims : List Claim) (jobs : List Job) (facts : List Facts) (rows : List Row) → has_float (pipeline_data p claims jobs facts rows) ≡ false
pipeline_has_none p claims jobs facts rows = ap (λ b. b || false) (jobs_have_none claims p.project jobs rows)

pub grant_has_none : (attempt : ℕ) (token : List ℕ) (q : QueuedJob) (vs : List JobVariable) → has_float (grant_data attempt token q vs) ≡ false
grant_has_none attempt token q vs =
    λ i. items string (λ s. refl) q.job.options.script i || (items variable_data (λ v. refl) (granted_variables q.job attempt vs) i || false)

-- ---- what is read

pub number_has_none : (n : Option ℕ) → has_float (number_or_null n) ≡ false
number_has_none None = refl
number_has_none (Some n) = refl

pub text_has_none : (t : Option (List ℕ)) → has_float (text_or_null t) ≡ false
text_has_none None = refl
text_has_none (Some t) = refl

runner_has_none : (r : Option Runner) → has_float (runner_or_null r) ≡ false
runner_has_none None = refl
runner_has_none (Some r) = refl

pub attempt_has_none : (runners : List Runner) (a : Attempt) → has_float (attempt_data runners a) ≡ false
attempt_has_none runners a =
    λ i. number_has_none (exit_of a.state) i || (text_has_none (reason_of a.state) i || (runner_has_none (find (λ r. r.id == a.runner) runners) i || false))

pub attempts_have_none : (runners : List Runner) (attempts : List Attempt) → has_float (listed (attempt_data runners) attempts) ≡ false
attempts_have_none runners = items (attempt_data runners) (attempt_has_none runners)

pub told_have_none : (claims : List Claim) (project : ℕ) (runners : List Runner) (needs : List Need) (attempts : List Attempt) (jobs : List Job) (facts : List Facts) (rows : List Row)
    → items_have_float (items_of (told_jobs claims project runners needs attempts jobs facts rows)) ≡ false
told_have_none claims project runners needs attempts [] facts rows = refl
told_have_none claims project runners needs attempts (j ∷ js) [] rows = refl
told_have_none claims project runners needs attempts (j ∷ js) (f ∷ facts) [] = refl
told_have_none claims project runners needs attempts (j ∷ js) (f ∷ facts) (r ∷ rows) =
    λ i. (items (attempt_data runners) (attempt_has_none runners) (attempts_among attempts j.id) i
    || (items (λ n. number (unsigned n)) (λ n. refl) (needs_among needs j.id) i || (text_has_none j.options.resource_group i || (items string (λ t. refl) j.options.tags i || false))))
    || told_have_none claims project runners needs attempts js facts rows i
