-- What the code has, without where it lies in memory.
use Rattle.std.specs.Prelude.{ℕ, List, map, option_map}
use Rattle.std.specs.Borrow.{Bor}
use Rattle.std.specs.Global.{Vec}
use Rattle.ci_yaml_lines.specs.Prelude.{text_view, Value, bytes_of, value_view, words_of}
use Rattle.ci_yaml_lines.specs.declared.tree.Text.{Text}
use Rattle.ci_yaml_lines.specs.declared.tree.Tree.{Tree}
use Rattle.ci_expr.specs.Prelude.{formula_of}
use Rattle.ci_config.specs.Config as config
use Rattle.ci_config.specs.declared.value.Variable.{Variable}
use Rattle.ci_config.specs.declared.need.Need.{Need}
use Rattle.ci_config.specs.declared.rule.Rule.{Rule}
use Rattle.ci_config.specs.declared.job.JobSpec.{JobSpec}
use Rattle.ci_config.specs.declared.file.Config.{Config}

-- ---- trees

abbrev pub values_view : List Tree → List Value
values_view ts = map value_view ts

abbrev pub pair_view : Text × Tree → List ℕ × Value
pair_view m = (bytes_of m.0, value_view m.1)

abbrev pub pairs_view : List (Text × Tree) → List (List ℕ × Value)
pairs_view ms = map pair_view ms

-- ---- lists

abbrev pub texts_view : Vec (Bor (List ℕ)) → List (List ℕ)
texts_view v = map text_view v.items

abbrev pub codes_view : Vec ℕ → List ℕ
codes_view v = v.items

abbrev pub variable_view : Variable → List ℕ × List ℕ
variable_view v = (v.name.now, words_of v.value)

abbrev pub variables_view : Vec Variable → List (List ℕ × List ℕ)
variables_view v = map variable_view v.items

-- ---- needs

abbrev pub need_view : Need → config.Need
need_view n = record { job = n.job.now; optional = n.optional }

abbrev pub needs_view : Vec Need → List config.Need
needs_view v = map need_view v.items

-- ---- rules

abbrev pub rule_view : Rule → config.Rule
rule_view r = record { condition = option_map formula_of r.condition; when = r.when; allow_failure = r.allow_failure; variables = variables_view r.variables }

abbrev pub rules_view : Vec Rule → List config.Rule
rules_view v = map rule_view v.items

-- ---- jobs

abbrev pub job_view : JobSpec → config.Job
job_view j = record {
  name = j.name.now;
  stage = j.stage.now;
  script = texts_view j.script;
  needs = option_map needs_view j.needs;
  rules = option_map rules_view j.rules;
  when = j.when;
  allow_failure = j.allow_failure;
  retry = j.retry;
  tags = texts_view j.tags;
  timeout = j.timeout;
  resource_group = option_map text_view j.resource_group;
  interruptible = j.interruptible;
  variables = variables_view j.variables;
}

abbrev pub jobs_view : Vec JobSpec → List config.Job
jobs_view v = map job_view v.items

-- ---- files

abbrev pub config_view : Config → config.Config
config_view c = record { stages = texts_view c.stages; variables = variables_view c.variables; jobs = jobs_view c.jobs }
