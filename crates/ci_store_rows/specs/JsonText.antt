-- The parts of records that are kept as JSON: compact, the members of an object in byte order.
use Rattle.std.specs.Prelude.{ℕ, List, [], ◌∷◌, map, filter, codes, true, false, Option, Some, None}
use Rattle.serde_json.specs.Data.{Data, null, boolean, string, number, array, object, unsigned, Items, no_members, member}
use Rattle.serde_json.specs.View.{items_of}
use Rattle.serde_json.specs.Written.{compact_text}
use Rattle.ci_machine.specs.Prelude.{Cause, UnknownFailure, ScriptFailure, ApiFailure, StuckOrTimeoutFailure, RunnerSystemFailure, JobExecutionTimeout, When, OnSuccess, OnFailure}
use Rattle.ci_machine.specs.Prelude.{Always, Manual, AllowFailure, No, Yes, ExitCodes, Causes, Retry, has_cause}
use Rattle.ci_store.specs.Prelude.{JobOptions}

abbrev pub strings : List (List ℕ) → Items
strings texts = items_of (map string texts)

abbrev pub numbers : List ℕ → Items
numbers ns = items_of (map (λ n. number (unsigned n)) ns)

abbrev pub list_data : List (List ℕ) → Data
list_data texts = array (strings texts)

-- the list of a runner's tags
abbrev pub list_text : List (List ℕ) → List ℕ
list_text texts = compact_text (list_data texts)

-- ---- what was fixed of a job

-- in GitLab's words
abbrev pub when_text : When → List ℕ
when_text OnSuccess = codes "on_success"
when_text OnFailure = codes "on_failure"
when_text Always = codes "always"
when_text Manual = codes "manual"

abbrev pub cause_text : Cause → List ℕ
cause_text UnknownFailure = codes "unknown_failure"
cause_text ScriptFailure = codes "script_failure"
cause_text ApiFailure = codes "api_failure"
cause_text StuckOrTimeoutFailure = codes "stuck_or_timeout_failure"
cause_text RunnerSystemFailure = codes "runner_system_failure"
cause_text JobExecutionTimeout = codes "job_execution_timeout"

abbrev pub every_cause : List Cause
every_cause = UnknownFailure ∷ ScriptFailure ∷ ApiFailure ∷ StuckOrTimeoutFailure ∷ RunnerSystemFailure ∷ JobExecutionTimeout ∷ []

-- the names of the causes that the set has
abbrev pub causes_data : Causes → Data
causes_data causes = array (strings (map cause_text (filter (has_cause causes) every_cause)))

abbrev pub retry_data : Retry → Data
retry_data retry = object (member (codes "causes") (causes_data retry.causes) (member (codes "max") (number (unsigned retry.max)) no_members))

-- whether, or after which exit codes
abbrev pub allow_data : AllowFailure → Data
allow_data No = boolean false
allow_data Yes = boolean true
allow_data (ExitCodes codes) = array (numbers codes)

abbrev pub group_data : Option (List ℕ) → Data
group_data None = null
group_data (Some name) = string name

abbrev pub spec_data : JobOptions → Data
spec_data spec =
    object
    (member (codes "allow_failure") (allow_data spec.part.allow_failure)
    (member (codes "interruptible") (boolean spec.interruptible)
    (member (codes "needs") (boolean spec.part.gives_needs)
    (member (codes "resource_group") (group_data spec.resource_group)
    (member (codes "retry") (retry_data spec.part.retry)
    (member (codes "script") (array (strings spec.script))
    (member (codes "tags") (array (strings spec.tags))
    (member (codes "timeout") (number (unsigned spec.timeout))
    (member (codes "when") (string (when_text spec.part.«when»)) no_members)))))))))

-- {"allow_failure":false,"interruptible":false,"needs":false,"resource_group":null,"retry":{"causes":[],"max":0},
-- "script":["make"],"tags":[],"timeout":3600,"when":"on_success"} without the line's end
abbrev pub spec_text : JobOptions → List ℕ
spec_text spec = compact_text (spec_data spec)
