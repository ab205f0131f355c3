-- The words of this crate and of those below it, in one place: proofs and the crates above name them from here.
pub use Rattle.ci_expr.specs.Answered.{AreAnswered, RefusesLooks, answered}
pub use Rattle.ci_expr.specs.Budget.{class_marks, drops_unicode, may_drop_unicode, names_unicode}
pub use Rattle.ci_expr.specs.Built.{AreMeasured, Look, cost_of, formula_of, formula_view, look_cost, look_view, looks_in, looks_of, looks_view, pattern_view, patterns_in}
pub use Rattle.ci_expr.specs.Built.{patterns_of, patterns_view, same_flag, same_look, same_pattern, values_of}
pub use Rattle.ci_expr.specs.Character.{is_blank, is_word, starts_word}
pub use Rattle.ci_expr.specs.Code.{code_of}
pub use Rattle.ci_expr.specs.Computed.{expression_of}
pub use Rattle.ci_expr.specs.Descent.{Read, before_byte, behind, behind_byte, body_by, body_of, compared_by, compared_from, descend, flagged, formula_from, height, is_kind}
pub use Rattle.ci_expr.specs.Descent.{joined_by, matched_by, matched_from, named_from, operand_by, pattern_of, place, reach, sign_by, test_by, text_of, variable_by, whole_by}
pub use Rattle.ci_expr.specs.Distinct.{AreAmong, distinct, is_among, with_each, with_one}
pub use Rattle.ci_expr.specs.Faults.{HasStray, IsBalanced, IsDeep, closes, ends_in_match, opened, opens, takes_pattern}
pub use Rattle.ci_expr.specs.Formula.{Derives, Formula, IsNamed, IsOperand, IsPatternOf, Level, Operand, alone, chain, compared, comparing, equal, flag_of, found, group}
pub use Rattle.ci_expr.specs.Formula.{has_pattern, in_group, joined, matched, matching, null, or, part, present, several, sign, single, test, text, variable}
pub use Rattle.ci_expr.specs.Found.{HasTables, IsAutomatonOf, IsNoPattern, IsPattern, IsRefused, config_of, found_by, is_found_in}
pub use Rattle.ci_expr.specs.Lexeme.{body_length, escapes, lexeme, name_front, null_front, pattern_by, text_by, until, word_length}
pub use Rattle.ci_expr.specs.Meaning.{Allows, AtMostOneFormula, AtMostOneList, IsBuilt, IsMeaning, IsOwn, Means, MeansOneThing, Parses, Tokenizes, parse_by, parse_of}
pub use Rattle.ci_expr.specs.Order.{balances, closes_none, deepest, has_stray, is_pattern, open_after}
pub use Rattle.ci_expr.specs.Reading.{lex, token_from, tokens_of, with_token, ◌>>=◌}
pub use Rattle.ci_expr.specs.Source.{source_of}
pub use Rattle.ci_expr.specs.Token.{AreTokens, AreWord, BeginsNone, EndsWord, IsBody, IsFlag, IsFront, IsMark, Lacks, Spells, StaysOpen, Stops, Token, blank, empty, nothing, pair}
pub use Rattle.ci_expr.specs.Token.{pattern, plain, quote, token, token_at, unclosed, wrong}
pub use Rattle.ci_expr.specs.Truth.{Values, truth, value_of}
pub use Rattle.ci_expr.specs.View.{Fails, Gives, RefusesPattern, token_view, tokens_view, tree_view}
pub use Rattle.ci_expr.specs.declared.fault.ExprCode.{ExprCode}
pub use Rattle.ci_expr.specs.declared.fault.ExprCode.TheVariants.{X1, X2, X3, X4, X5, X6, X7, X8}
pub use Rattle.ci_expr.specs.declared.fault.ExprFault.{ExprFault}
pub use Rattle.ci_expr.specs.declared.formula.Formula.TheVariants.{Found, Group', Joined'}
pub use Rattle.ci_expr.specs.declared.pattern.Refusal.{Refusal}
pub use Rattle.ci_expr.specs.declared.token.Kind.{Kind}
pub use Rattle.ci_expr.specs.declared.token.Kind.TheVariants.{And, Left, Match, Mismatch, Name, Null, Or, Right, Text, Unequal}
pub use Rattle.ci_expr.specs.declared.tree.Join.{Join}
