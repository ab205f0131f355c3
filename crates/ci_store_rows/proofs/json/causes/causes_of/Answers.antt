use Rattle.std.proofs.Common.{rules, ◌≡◌, ◌∙◌, ℕ, List, Bool, map, ap}
use Rattle.std.specs.List.{list_any}
use Rattle.serde_json.specs.Data.{array}
use Rattle.serde_json.specs.View.{view, items_of}
use Rattle.ci_machine.specs.Prelude.{UnknownFailure, ScriptFailure, ApiFailure, StuckOrTimeoutFailure, RunnerSystemFailure, JobExecutionTimeout}
use Rattle.ci_store_rows.specs.Prelude.{causes_data, is_text}
use Rattle.ci_store_rows.proofs.JsonReading.{named}
use Rattle.ci_store_rows.proofs.json.causes.causes_of.Goals as goal

pub returns : goal.returns
returns c other is =
    let names = map view c.as_slice-names.result.now in
    let names_are : array (items_of names) ≡ causes_data other = let a = c.as_array.ensures in let b = c.in_ok-names.ensures in search (rules, a, b, is) in
    let found : List ℕ → Bool = λ text. list_any (is_text text) names in
    λ i. record {
      unknown_failure = (c.has_text.ensures ∙ ap found c.cause_text.ensures ∙ named other UnknownFailure names names_are) i;
      script_failure = (c.has_text-2.ensures ∙ ap found c.cause_text-2.ensures ∙ named other ScriptFailure names names_are) i;
      api_failure = (c.has_text-3.ensures ∙ ap found c.cause_text-3.ensures ∙ named other ApiFailure names names_are) i;
      stuck_or_timeout_failure = (c.has_text-4.ensures ∙ ap found c.cause_text-4.ensures ∙ named other StuckOrTimeoutFailure names names_are) i;
      runner_system_failure = (c.has_text-5.ensures ∙ ap found c.cause_text-5.ensures ∙ named other RunnerSystemFailure names names_are) i;
      job_execution_timeout = (c.has_text-6.ensures ∙ ap found c.cause_text-6.ensures ∙ named other JobExecutionTimeout names names_are) i;
    }
