-- The words of this crate and of those below it, in one place: proofs and the crates above name them from here.
pub use Rattle.ci_graph_layout.specs.Examples.{file}
pub use Rattle.ci_graph_layout.specs.Fault.{Plan, Plans, any, cyclic, faulty, first_fault, is_later, is_missing, is_unmet, is_work, lacks_need, names_later, needs_many, needs_of}
pub use Rattle.ci_graph_layout.specs.Fault.{planned, waits_for_later}
pub use Rattle.ci_graph_layout.specs.Inclusion.{ByRule, Decided, Decision, Given, IncludedJob, NoRules, NoneMatches, by_rules, decided, decided_job, decision, deciding, holds, included, layered, names}
pub use Rattle.ci_graph_layout.specs.Inclusion.{own_names, ruled, seen, without_rules}
pub use Rattle.ci_graph_layout.specs.Layering.{layers_of}
pub use Rattle.ci_graph_layout.specs.Layout.{all_included, below, by_needs, by_stage, is_of, lineup, needed, pairs, pairs_from, place_from, place_of, predecessors, put, rank, ranks}
pub use Rattle.ci_graph_layout.specs.Parts.{CanBeGraph, job_part, parts}
pub use Rattle.ci_graph_layout.specs.Places.{IsLineup, IsPlaced, jobs_of, never_falls_from, stages_of}
pub use Rattle.ci_graph_layout.specs.Plans.{Orders, plan_view}
pub use Rattle.ci_graph_layout.specs.Searches.{all_looks, condition_looks, job_looks, rule_looks, rules_looks}
pub use Rattle.ci_graph_layout.specs.Unmade.{unmade}
pub use Rattle.ci_graph_layout.specs.View.{decided_view, decision_view, given_view, included_view, lineup_view}
pub use Rattle.ci_graph_layout.specs.declared.fault.GraphCode.{GraphCode}
pub use Rattle.ci_graph_layout.specs.declared.fault.GraphCode.TheVariants.{G3}
pub use Rattle.ci_config.specs.Config.{Config, Job, Need, Text}
pub use Rattle.ci_config.specs.Expressions.{Patterns, built, refused}
pub use Rattle.ci_config.specs.Fault.{Fault, K1, K10, K11, K12, K13, K14, K15, K16, K2, K3, K4, K5, K6, K7, K8, K9, Placed, number, said}
pub use Rattle.ci_config.specs.FaultView.{code_view}
pub use Rattle.ci_config.specs.Laws.{ConfigLacksPatterns, Each, HasNoPattern, JobLacksPatterns, LacksPatterns, RuleLacksPattern}
pub use Rattle.ci_config.specs.Meaning.{Means, meaning}
pub use Rattle.ci_config.specs.Values.{list_of, map_of, text_of}
pub use Rattle.ci_config.specs.View.{config_view, job_view, need_view, pairs_view, rule_view, rules_view, values_view, variable_view}
pub use Rattle.ci_config.specs.declared.fault.ConfigFault.{ConfigFault}
pub use Rattle.ci_config.specs.declared.job.JobSpec.{JobSpec}
pub use Rattle.ci_config.specs.declared.limits.TheConstants.{MAX_TAGS, MAX_VARIABLES}
pub use Rattle.ci_expr.specs.Answered.{AreAnswered, RefusesLooks, answered}
pub use Rattle.ci_expr.specs.Built.{Look, formula_of, look_cost, looks_of, looks_view, same_look, values_of}
pub use Rattle.ci_expr.specs.Computed.{expression_of}
pub use Rattle.ci_expr.specs.Distinct.{distinct}
pub use Rattle.ci_expr.specs.Formula.{has_pattern}
pub use Rattle.ci_expr.specs.Meaning.{Tokenizes}
pub use Rattle.ci_expr.specs.Reading.{tokens_of}
pub use Rattle.ci_expr.specs.Token.{Token}
pub use Rattle.ci_expr.specs.View.{token_view, tokens_view}
pub use Rattle.ci_expr.specs.declared.expr.Expr.{Expr}
pub use Rattle.ci_expr.specs.declared.fault.ExprCode.{ExprCode}
pub use Rattle.ci_expr.specs.declared.fault.ExprCode.TheVariants.{X1, X2, X3, X4, X5, X6, X7, X8}
pub use Rattle.ci_expr.specs.declared.fault.ExprFault.{ExprFault}
pub use Rattle.ci_expr.specs.declared.token.Kind.{Kind}
pub use Rattle.ci_graph.specs.Pairs.{AreWithin, HasCycle, IsAcyclic}
pub use Rattle.ci_values.specs.Layers.{Variables, layer_view, or_else, text_view, value_in}
pub use Rattle.ci_values.specs.Table.{meaning_of, words_view}
