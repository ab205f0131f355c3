-- What deciding rules looks for.
use Rattle.std.proofs.Common.{◌≡◌, false, [], Option, Some, None, IfSome, refl, ap, option_map}
use Rattle.std.specs.Global.{Vec}
use Rattle.ci_graph_layout.specs.Prelude.{Variables, formula_of, looks_of, same_look, distinct, has_pattern, Expr, Each, RuleLacksPattern, JobLacksPatterns}
use Rattle.ci_graph_layout.specs.Prelude.{ConfigLacksPatterns, rule_view, rules_view, job_view, config_view, Given, seen, condition_looks, rule_looks, rules_looks, job_looks}
use Rattle.ci_graph_layout.specs.Prelude.{all_looks}
use Rattle.ci_config.specs.declared.file.Config.{Config}
use Rattle.ci_config.specs.declared.rule.Rule.{Rule}
use Rattle.ci_config.proofs.Lacks.{none-of}

abbrev LooksForNothing : Type 0
LooksForNothing = (vs : Variables) (e : Expr) → has_pattern (formula_of e) ≡ false → looks_of vs e ≡ []

module _ (law : LooksForNothing) where
  condition-none : (vs : Variables) (o : Option Expr) → IfSome (option_map formula_of o) (λ f. has_pattern f ≡ false) → condition_looks vs o ≡ []
  condition-none vs None h = refl
  condition-none vs (Some e) h = law vs e h

  rules-none : (vs : Variables) (o : Option (Vec Rule)) → IfSome (option_map rules_view o) (Each RuleLacksPattern) → rules_looks vs o ≡ []
  rules-none vs None h = refl
  rules-none vs (Some rs) h = none-of rule_view RuleLacksPattern (rule_looks vs) (λ r. condition-none vs r.condition) rs.items h

  pub no-search : (g : Given) (c : Config) → ConfigLacksPatterns (config_view c) → all_looks g c ≡ []
  no-search g c h = ap (λ ls. distinct same_look ls)
      (none-of job_view JobLacksPatterns (job_looks g c) (λ j. rules-none (seen g (config_view c) (job_view j)) j.rules) c.jobs.items h)
