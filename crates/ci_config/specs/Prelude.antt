-- The words of this crate and of those below it, in one place: proofs and the crates above name them from here.
pub use Rattle.ci_config.specs.AllowFailures.{allow_failure_entry, allow_failure_from, allow_failure_of, allow_failure_said, allow_failure_value, exit_code_in, exit_code_of}
pub use Rattle.ci_config.specs.AllowFailures.{exit_codes_of, yes_or_no}
pub use Rattle.ci_config.specs.Budget.{IsJobMeasured, IsMeasured, IsRuleMeasured, config_cost, job_patterns, rule_patterns}
pub use Rattle.ci_config.specs.Config.{Config, Job, Need, Rule}
pub use Rattle.ci_config.specs.Expressions.{Patterns, are_built, below, built, condition_by, condition_of, refused, refused_at}
pub use Rattle.ci_config.specs.Fault.{Fault, K1, K10, K11, K12, K13, K15, K16, K4, K5, K6, K7, K8, K9, Placed, placed, said}
pub use Rattle.ci_config.specs.FaultView.{Gives, GivesAt, IsWithin, code_view, way_view}
pub use Rattle.ci_config.specs.Files.{FileSaid, blank_file, file_entry, file_from, file_value, is_among, is_hidden, job_of, job_value, keyword_value, other_value, stage_in}
pub use Rattle.ci_config.specs.Files.{stages_of, with_job}
pub use Rattle.ci_config.specs.Jobs.{blank_job, job_entry, job_from, lines_of, plain_job_value, rules_value, script_of}
pub use Rattle.ci_config.specs.Laws.{AllLackPatterns, AreNamed, CanRun, ConfigLacksPatterns, Each, HasNames, HasNoPattern, IsName, IsWhole, JobLacksPatterns, LacksPatterns}
pub use Rattle.ci_config.specs.Laws.{RuleLacksPattern}
pub use Rattle.ci_config.specs.Meaning.{Means, MeansAt, all_stages, config_of, default_stages, file_config, index_of, is_inner, is_nil, job_judged, jobs_judged, judged, meaning}
pub use Rattle.ci_config.specs.Meaning.{post, pre, reading, unplaced}
pub use Rattle.ci_config.specs.Needs.{NeedSaid, blank_need, need_entry, need_from, need_of, need_said, need_value, needs_of}
pub use Rattle.ci_config.specs.Reading.{demand, demand_at, each, entries, fails, fails_at, keyword_of, left_out_or_unknown, or_fault, other_key, within, ◌>>=◌}
pub use Rattle.ci_config.specs.Retries.{RetrySaid, all_causes, blank_retry, cause_in, cause_of, causes_of, max_of, no_causes, retry_entry, retry_from, retry_of, retry_said}
pub use Rattle.ci_config.specs.Retries.{retry_value, with_cause}
pub use Rattle.ci_config.specs.Rules.{blank_rule, condition_value, plain_rule_value, rule_entry, rule_from, rule_of, rule_value, rules_from, rules_of}
pub use Rattle.ci_config.specs.Tables.{allow_failure_keywords, allow_failure_left_out, causes, file_keywords, file_left_out, job_keywords, job_left_out, need_keywords}
pub use Rattle.ci_config.specs.Tables.{need_left_out, retry_keywords, retry_left_out, rule_keywords, rule_left_out, whens}
pub use Rattle.ci_config.specs.Values.{bool_of, is_bool, is_map, is_number, is_text, items_in, lasting, list_of, map_of, name_in, name_of, names_of, number_up_to, pairs_in}
pub use Rattle.ci_config.specs.Values.{plain_of, text_in, text_of, texts_of, timeout_of, up_to, variable_in, variables_of}
pub use Rattle.ci_config.specs.View.{codes_view, config_view, job_view, jobs_view, need_view, needs_view, pair_view, pairs_view, rule_view, rules_view, texts_view, values_view}
pub use Rattle.ci_config.specs.View.{variable_view, variables_view}
pub use Rattle.ci_config.specs.Whens.{in_job, in_rule, rule_when_of, when_of, when_word}
pub use Rattle.ci_config.specs.declared.keyword.AllowFailureKeyword.{AllowFailureKeyword}
pub use Rattle.ci_config.specs.declared.keyword.FileKeyword.{FileKeyword}
pub use Rattle.ci_config.specs.declared.keyword.JobKeyword.{JobKeyword}
pub use Rattle.ci_config.specs.declared.keyword.NeedKeyword.{NeedKeyword}
pub use Rattle.ci_config.specs.declared.keyword.PlainJobKeyword.{PlainJobKeyword}
pub use Rattle.ci_config.specs.declared.keyword.PlainRuleKeyword.{PlainRuleKeyword}
pub use Rattle.ci_config.specs.declared.keyword.RetryKeyword.{RetryKeyword}
pub use Rattle.ci_config.specs.declared.keyword.RuleKeyword.{RuleKeyword}
pub use Rattle.ci_config.specs.declared.keyword.WhenWord.{WhenWord}
pub use Rattle.ci_config.specs.declared.keyword.WhenWord.TheVariants.{Delayed, Never, Runs}
pub use Rattle.ci_config.specs.declared.limits.TheConstants.{MAX_EXIT_CODE, MAX_EXIT_CODES, MAX_JOBS, MAX_RETRIES, MAX_RULES, MAX_SCRIPT_ITEMS, MAX_STAGES, MAX_TAGS, MAX_VARIABLES}
pub use Rattle.ci_expr.specs.Answered.{AreAnswered}
pub use Rattle.ci_expr.specs.Built.{Look, formula_of, look_cost, looks_of, looks_view, patterns_view, same_look, same_pattern, values_of}
pub use Rattle.ci_expr.specs.Computed.{expression_of}
pub use Rattle.ci_expr.specs.Distinct.{distinct, with_each}
pub use Rattle.ci_expr.specs.Formula.{Formula, has_pattern, present}
pub use Rattle.ci_expr.specs.Meaning.{Allows, IsMeaning, IsOwn}
pub use Rattle.ci_expr.specs.Truth.{truth, value_of}
pub use Rattle.ci_expr.specs.declared.expr.Expr.{Expr}
pub use Rattle.ci_expr.specs.declared.fault.ExprCode.{ExprCode}
pub use Rattle.ci_expr.specs.declared.fault.ExprCode.TheVariants.{X1, X2, X3, X4, X5, X6, X7, X8}
pub use Rattle.ci_expr.specs.declared.fault.ExprFault.{ExprFault}
pub use Rattle.ci_values.specs.Duration.{IsDuration, duration_of}
pub use Rattle.ci_values.specs.Layers.{Variables, layer_view, or_else, text_view, value_in}
pub use Rattle.ci_values.specs.Names.{is_name}
pub use Rattle.ci_values.specs.Table.{meaning_of, table_view, word_in, words_view}
pub use Rattle.ci_values.specs.VariableName.{is_variable_name}
pub use Rattle.ci_values.specs.declared.limits.TheConstants.{MAX_FILE_BYTES}
pub use Rattle.ci_values.specs.declared.when.AllowFailure.{AllowFailure}
pub use Rattle.ci_values.specs.declared.when.AllowFailure.TheVariants.{No, Yes}
pub use Rattle.ci_values.specs.declared.when.Causes.{Causes}
pub use Rattle.ci_values.specs.declared.when.Retry.{Retry}
pub use Rattle.ci_values.specs.declared.when.When.{When}
pub use Rattle.ci_values.specs.declared.when.When.TheVariants.{Always, Manual, OnFailure, OnSuccess}
pub use Rattle.ci_yaml_lines.specs.Entry.{Entry}
pub use Rattle.ci_yaml_lines.specs.Line.{Line}
pub use Rattle.ci_yaml_lines.specs.Tree.{Members, Value, boolean, mapping, member, no_members, node, null, number, sequence, text}
pub use Rattle.ci_yaml_lines.specs.TreeView.{bytes_of, items_of, items_view, value_view, words_of}
pub use Rattle.ci_yaml_lines.specs.declared.code.Code.{Code}
pub use Rattle.ci_yaml_lines.specs.declared.code.Code.TheVariants.{Y1}
pub use Rattle.ci_yaml_lines.specs.declared.tree.Tree.{List, Map, Tree, the_lemmas}
