-- No report has a float.
use Rattle.std.proofs.Common.{◌≡◌, ◌||◌, ℕ, List, [], ◌∷◌, Option, Some, None, false, refl, ap}
use Rattle.serde_json.specs.Data.{Data}
use Rattle.serde_json.specs.Written.{has_float}
use Rattle.ci_machine.specs.declared.report.QueueRow.{QueueRow}
use Rattle.ci_machine.specs.declared.report.PipelineRows.{PipelineRows}
use Rattle.ci_machine.specs.declared.report.RunnerRow.{RunnerRow}
use Rattle.ci_machine.specs.Prelude.{listed}
use Rattle.ci_cli_words.specs.JsonText.{queued_data, job_data, pipeline_data, grant_data, runner_data}

-- a list of rows of which none has one has none
listed_has_none : {A : Type 0} (told : A → Data) → ((x : A) → has_float (told x) ≡ false) → (rows : List A) → has_float (listed told rows) ≡ false
listed_has_none told plain [] = refl
listed_has_none told plain (x ∷ xs) = λ i. plain x i || listed_has_none told plain xs i

pub queue_has_none : (rows : List QueueRow) → has_float (listed queued_data rows) ≡ false
queue_has_none = listed_has_none queued_data (λ row. refl)

one_has_none : (p : PipelineRows) → has_float (pipeline_data p) ≡ false
one_has_none p = ap (λ b. b || false) (listed_has_none job_data (λ row. refl) p.jobs.items)

pub pipeline_has_none : (p : PipelineRows) → has_float (listed pipeline_data (p ∷ [])) ≡ false
pipeline_has_none p = listed_has_none pipeline_data one_has_none (p ∷ [])

grant_has_none : (o : Option ℕ) → has_float (grant_data o) ≡ false
grant_has_none None = refl
grant_has_none (Some moment) = refl

pub runners_have_none : (rows : List RunnerRow) → has_float (listed runner_data rows) ≡ false
runners_have_none = listed_has_none runner_data (λ row. ap (λ b. b || false) (grant_has_none row.last_grant))
