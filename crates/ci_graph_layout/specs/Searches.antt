-- What deciding the rules of a file looks for, each look once.
use Rattle.std.specs.Prelude.{List, [], Option, Some, None, flat_map}
use Rattle.std.specs.Global.{Vec}
use Rattle.ci_config.specs.Prelude.{Look, looks_of, same_look, distinct, Expr, Variables, config_view, job_view}
use Rattle.ci_config.specs.declared.rule.Rule.{Rule}
use Rattle.ci_config.specs.declared.job.JobSpec.{JobSpec}
use Rattle.ci_config.specs.declared.file.Config.{Config}
use Rattle.ci_graph_layout.specs.Inclusion.{Given, seen}

abbrev pub condition_looks : Variables → Option Expr → List Look
condition_looks vs None = []
condition_looks vs (Some e) = looks_of vs e

abbrev pub rule_looks : Variables → Rule → List Look
rule_looks vs r = condition_looks vs r.condition

abbrev pub rules_looks : Variables → Option (Vec Rule) → List Look
rules_looks vs None = []
rules_looks vs (Some rs) = flat_map (rule_looks vs) rs.items

-- of a job, whose rules see these variables
abbrev pub job_looks : Given → Config → JobSpec → List Look
job_looks g c j = rules_looks (seen g (config_view c) (job_view j)) j.rules

-- what all rules look for, each once, whether they are come to or not
abbrev pub all_looks : Given → Config → List Look
all_looks g c = distinct same_look (flat_map (job_looks g c) c.jobs.items)
