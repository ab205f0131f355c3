-- Which jobs of a file a pipeline has: those that their rules include.
use Rattle.std.specs.Prelude.{ℕ, ◌+◌, Bool, true, false, List, [], ◌∷◌, ◌++◌, not, ◌||◌, if◌then◌else◌, map, filter, Option, Some, None, option_map, unwrap_or, codes}
use Rattle.std.specs.Str.{bytes_eq}
use Rattle.ci_config.specs.Prelude.{When, OnSuccess, OnFailure, Always, Manual, AllowFailure, No, Yes, Variables, Formula, truth, Rule, Job, Config}
use Rattle.ci_config.specs.Config.{Text}
use Rattle.ci_config.specs.declared.keyword.RuleWhen.{RuleWhen}

-- the variables that a pipeline brings to the file: those of its request, of its project, and the predefined
pub record Given : Type 0 where
  pub pipeline : Variables
  pub project : Variables
  pub predefined : Variables

-- ---- what a rule sees

abbrev pub own_names : Job → Variables
own_names j = (codes "CI_JOB_NAME", j.name) ∷ (codes "CI_JOB_STAGE", j.stage) ∷ []

-- The variables of a job, the highest layer first, whose own are these: the pipeline's, the project's, its own, the file's, the predefined.
abbrev pub layered : Given → Config → Job → Variables → Variables
layered g c j own = g.pipeline ++ g.project ++ own ++ c.variables ++ own_names j ++ g.predefined

-- what its rules see: a rule's variables aren't among them
abbrev pub seen : Given → Config → Job → Variables
seen g c j = layered g c j j.variables

-- ---- the rule that decides

-- a rule without `if` always matches
abbrev pub holds : Variables → Option Formula → Bool
holds vs None = true
holds vs (Some f) = truth vs f

-- what decides whether a pipeline has a job: that it has no rules; a rule, the first that matches, with its number; or that none of its rules does
pub data Decision : Type 0 where
  NoRules : Decision
  ByRule : (number : ℕ) (r : Rule) → Decision
  NoneMatches : Decision

-- of rules of which the first has this number
abbrev pub deciding : ℕ → Variables → List Rule → Decision
deciding k vs [] = NoneMatches
deciding k vs (r ∷ rs) = if holds vs r.condition then ByRule k r else deciding (k + 1) vs rs

-- the rules of a job are counted from 1
abbrev pub decision : Given → Config → Job → Decision
decision g c j = unwrap_or (option_map (deciding 1 (seen g c j)) j.rules) NoRules

-- a job of the file, and what decides of it
pub record Decided : Type 0 where
  pub job : Job
  pub decision : Decision

abbrev pub decided_job : Given → Config → Job → Decided
decided_job g c j = record { job = j; decision = decision g c j }

-- all jobs of the file
abbrev pub decided : Given → Config → List Decided
decided g c = map (decided_job g c) c.jobs

-- ---- what is included

-- A job of a pipeline: what the file says of it, the number of the rule that included it, when it runs, whether its pipeline goes on where it fails, and
-- its own variables.
pub record IncludedJob : Type 0 where
  pub job : Job
  pub rule : Option ℕ
  pub «when» : When
  pub allow_failure : AllowFailure
  pub variables : Variables

-- of a job without rules: a job that is started by hand may fail, if nothing else is said
abbrev pub may_fail : When → AllowFailure
may_fail Manual = Yes
may_fail OnSuccess = No
may_fail OnFailure = No
may_fail Always = No

abbrev pub allowing : Bool → AllowFailure
allowing true = Yes
allowing false = No

abbrev pub without_rules : Job → IncludedJob
without_rules j = record {
  job = j;
  rule = None;
  «when» = unwrap_or j.«when» OnSuccess;
  allow_failure = unwrap_or j.allow_failure (may_fail (unwrap_or j.«when» OnSuccess));
  variables = j.variables;
}

-- a rule's variables, and those of the job that it doesn't give
abbrev pub names : Variables → Text → Bool
names [] name = false
names (v ∷ vs) name = bytes_eq v.0 name || names vs name

abbrev pub joined : Variables → Variables → Variables
joined given own = given ++ filter (λ v. not (names given v.0)) own

abbrev pub by_rule : Job → ℕ → Rule → When → IncludedJob
by_rule j k r w = record {
  job = j;
  rule = Some k;
  «when» = w;
  allow_failure = unwrap_or (option_map allowing r.allow_failure) (unwrap_or j.allow_failure No);
  variables = joined r.variables j.variables;
}

abbrev pub by_word : Job → ℕ → Rule → RuleWhen → Option IncludedJob
by_word j k r (RuleWhen.Runs w) = Some (by_rule j k r w)
by_word j k r RuleWhen.Never = None

-- what the deciding rule says: `never` leaves the job out, and a rule without `when` leaves the job's own
abbrev pub ruled : Job → ℕ → Rule → Option IncludedJob
ruled j k r = by_word j k r (unwrap_or r.«when» (RuleWhen.Runs (unwrap_or j.«when» OnSuccess)))

-- a job without rules is included; one that a rule decides, as the rule says; and one whose rules none matches is left out
abbrev pub by_rules : Job → Decision → Option IncludedJob
by_rules j NoRules = Some (without_rules j)
by_rules j (ByRule k r) = ruled j k r
by_rules j NoneMatches = None

abbrev pub included : Given → Config → Job → Option IncludedJob
included g c j = by_rules j (decision g c j)
