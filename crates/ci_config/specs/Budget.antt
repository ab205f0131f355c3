-- What building the patterns of a file costs together, each pattern once.
use Rattle.std.specs.Prelude.{ℕ, List, [], Option, Some, None, IfSome, sum_by, flat_map}
use Rattle.std.specs.Global.{Vec}
use Rattle.ci_expr.specs.Built.{Pattern}
use Rattle.ci_expr.specs.Prelude.{patterns_of, same_pattern, cost_of, distinct}
use Rattle.ci_expr.specs.Built as expr
use Rattle.ci_expr.specs.declared.expr.Expr.{Expr}
use Rattle.ci_config.specs.Laws.{Each}
use Rattle.ci_config.specs.declared.rule.Rule.{Rule}
use Rattle.ci_config.specs.declared.job.JobSpec.{JobSpec}
use Rattle.ci_config.specs.declared.file.Config.{Config}

abbrev pub condition_patterns : Option Expr → List Pattern
condition_patterns None = []
condition_patterns (Some e) = patterns_of e

abbrev pub rule_patterns : Rule → List Pattern
rule_patterns r = condition_patterns r.condition

abbrev pub rules_patterns : Option (Vec Rule) → List Pattern
rules_patterns None = []
rules_patterns (Some rs) = flat_map rule_patterns rs.items

abbrev pub job_patterns : JobSpec → List Pattern
job_patterns j = rules_patterns j.rules

-- the patterns of a file's rules, where they stand
abbrev pub config_patterns : Config → List Pattern
config_patterns c = flat_map job_patterns c.jobs.items

-- what building them costs, each once
abbrev pub config_cost : Config → ℕ
config_cost c = sum_by cost_of (distinct same_pattern (config_patterns c))

-- ---- each pattern is counted with the bytes that the tables of its automaton take
abbrev pub IsRuleMeasured : Rule → Type 0
IsRuleMeasured r = IfSome r.condition expr.IsMeasured

abbrev pub IsJobMeasured : JobSpec → Type 0
IsJobMeasured j = IfSome j.rules (λ rs. Each IsRuleMeasured rs.items)

abbrev pub IsMeasured : Config → Type 0
IsMeasured c = Each IsJobMeasured c.jobs.items
