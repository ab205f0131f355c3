-- Files and pipelines for worked examples.
use Rattle.std.specs.Prelude.{ℕ, true, false, List, [], ◌∷◌, map, Option, Some, None, codes}
use Rattle.ci_config.specs.Prelude.{present, Need, Rule, Job, Config, all_stages, default_stages}
use Rattle.ci_config.specs.Config.{Text}
use Rattle.ci_config.specs.declared.keyword.RuleWhen.{RuleWhen}
use Rattle.ci_graph_layout.specs.Inclusion.{Given}
use Rattle.ci_graph_layout.specs.Layout.{lineup, pairs}
use Rattle.ci_graph_layout.specs.Fault.{first_fault}
use Rattle.ci_graph_layout.specs.declared.fault.GraphCode.{GraphCode}

-- a pipeline that brings no variable
abbrev pub bare : Given
bare = record { pipeline = []; project = []; predefined = [] }

-- a job of this name and stage, with a script and nothing else
abbrev pub job : List ℕ → List ℕ → Job
job name stage = record {
  name = name;
  stage = stage;
  script = codes "x" ∷ [];
  needs = None;
  rules = None;
  «when» = None;
  allow_failure = None;
  retry = None;
  tags = [];
  timeout = None;
  resource_group = None;
  interruptible = false;
  variables = [];
}

abbrev pub need : List ℕ → Need
need name = record { job = name; optional = false }

abbrev pub optional_need : List ℕ → Need
optional_need name = record { job = name; optional = true }

abbrev pub needing : List Need → Job → Job
needing ns j = record j { needs = Some ns }

abbrev pub ruled_by : List Rule → Job → Job
ruled_by rs j = record j { rules = Some rs }

-- `if: $A`
abbrev pub if_a : Rule
if_a = record { condition = Some (present (codes "A")); «when» = None; allow_failure = None; variables = [] }

abbrev pub never : Rule → Rule
never r = record r { «when» = Some RuleWhen.Never }

-- a file with the default stages and these jobs
abbrev pub file : List Job → Config
file jobs = record { stages = all_stages default_stages; variables = []; jobs = jobs }

-- ---- what they give

abbrev pub names_of : Given → Config → List Text
names_of g c = map (λ i. i.job.name) (lineup g c)

abbrev pub pairs_of : Config → List (ℕ × ℕ)
pairs_of c = pairs c.stages (lineup bare c)

abbrev pub fault_of : Config → Option GraphCode
fault_of c = first_fault c.stages (lineup bare c)
