-- The words of this crate and of those below it, in one place: proofs and the crates above name them from here.
pub use Rattle.ci_yaml_lines.specs.Comment.{HasNoComment, IsComment, IsCut, comment, last_of}
pub use Rattle.ci_yaml_lines.specs.Entry.{Head, bare, dash, head_of, key, level_of}
pub use Rattle.ci_yaml_lines.specs.FlowList.{AreBlanks, ArePlaces, HasNoMarkBeforeTab, IsList, IsPlace, IsPlain, IsQuotedPlace, IsTrimmed, Lacks, LacksPair, empty, last}
pub use Rattle.ci_yaml_lines.specs.Least.{least, least_of, lesser}
pub use Rattle.ci_yaml_lines.specs.Lent.{IsLent, LentAs, LentBetween, LentUpTo, is_lent}
pub use Rattle.ci_yaml_lines.specs.Line.{Chomp, Line, ParsedLine, Place, Split, after_place, behind_quoted, behind_value, bracket, clip, comma, cut_place, dashed, digit_next}
pub use Rattle.ci_yaml_lines.specs.Line.{end_of, entry_of, has_byte_order_mark, has_control, has_inner, header_code, header_of, header_rest, is_colon, is_dash, is_document_mark}
pub use Rattle.ci_yaml_lines.specs.Line.{is_skipped, is_space, item, keep, key_len, keyed, keyed_or_bare, listed, missing, parse_content, parse_entries, parse_line, place}
pub use Rattle.ci_yaml_lines.specs.Line.{place_codes, place_len, places, plain_key, plain_place, quoted_key, quoted_place, rest_codes, spaces, split_colon, strip, unwritten}
pub use Rattle.ci_yaml_lines.specs.Line.{with_codes, with_dash, with_place, written, written_at, written_list, written_plain, written_quoted}
pub use Rattle.ci_yaml_lines.specs.Quoting.{Between, Escape, IsQuoted, backslash, doubled, escape, in_double, in_single, itself, line_feed, misused, quote, tab}
pub use Rattle.ci_yaml_lines.specs.Scalar.{all_digits, before_comment, blanks, closes, comment_len, count_of, digits_value, double, drop_blanks, escape_of, escaped, from_place}
pub use Rattle.ci_yaml_lines.specs.Scalar.{has_colon, has_tab_after, head_is, is_blank, is_digit, is_escape, is_forbidden, is_indicator, is_nil, is_quote, negative_of}
pub use Rattle.ci_yaml_lines.specs.Scalar.{number_or_text, only_comment, plain_codes, plain_value, quoted, single, space_next, tail_of, trim_end, trimmed_len, when, with_byte}
pub use Rattle.ci_yaml_lines.specs.Scalar.{with_words, wrongly}
pub use Rattle.ci_yaml_lines.specs.Spans.{Stand, StandOn, Writes, entries_texts, entry_texts, given_texts, none, span_before}
pub use Rattle.ci_yaml_lines.specs.SpansOf.{content_spans, entries_spans, given_spans, item_spans, keyed_spans, line_spans, list_spans, places_spans, scalar_span, scalar_spans}
pub use Rattle.ci_yaml_lines.specs.SpansOf.{spans_behind, spans_of}
pub use Rattle.ci_yaml_lines.specs.SpansParsed.{GoOn, ItemHasSpans, ItemStands, KeyOf, OnlyText, behind_end, behind_list, text_spans}
pub use Rattle.ci_yaml_lines.specs.Tabs.{IsClear, unquoted}
pub use Rattle.ci_yaml_lines.specs.Tree.{Kind, Members, NamesFit, Value, boolean, mapping, member, no_members, node, null, number, push, sequence, text}
pub use Rattle.ci_yaml_lines.specs.TreeTexts.{items_texts, pairs_texts, texts_in}
pub use Rattle.ci_yaml_lines.specs.TreeView.{bytes_of, items_view, joined, pairs_view, value_view, words_of}
pub use Rattle.ci_yaml_lines.specs.View.{ColumnsFit, LeastItem, LeastKeyed, LeastListed, LeastParsed, LeastPlace, LeastWritten, bare_parsed, chomp_view, cut_view, end_view}
pub use Rattle.ci_yaml_lines.specs.View.{entry_view, given_view, item_view, key_parsed, keyed_view, least_entry, least_item, least_keyed, least_listed, least_parsed, least_place}
pub use Rattle.ci_yaml_lines.specs.View.{least_written, listed_view, parsed_view, place_view, quoted_view, quoted_words_view, with_entries, with_places, with_wrong}
pub use Rattle.ci_yaml_lines.specs.View.{written_of_list, written_view}
pub use Rattle.ci_yaml_lines.specs.declared.code.Code.{Code}
pub use Rattle.ci_yaml_lines.specs.declared.code.Code.TheVariants.{Y11, Y2, Y6, Y7, Y8, Y9}
pub use Rattle.ci_yaml_lines.specs.declared.cut.SourceLine.{SourceLine}
pub use Rattle.ci_yaml_lines.specs.declared.entry.Head.TheVariants.{Dash}
pub use Rattle.ci_yaml_lines.specs.declared.flow.Cut.{Cut}
pub use Rattle.ci_yaml_lines.specs.declared.flow.End.TheVariants.{Bracket, Comma, Missing}
pub use Rattle.ci_yaml_lines.specs.declared.quoted.QuotedWords.{QuotedWords}
pub use Rattle.ci_yaml_lines.specs.declared.tree.Span.{Span}
pub use Rattle.ci_yaml_lines.specs.declared.tree.Tree.{Bool, Int, List, Map, Null, Tree, the_lemmas}
pub use Rattle.ci_yaml_lines.specs.declared.tree.Words.{Words}
pub use Rattle.ci_yaml_lines.specs.declared.tree.Words.TheVariants.{Lent, Owned}
pub use Rattle.ci_values.specs.Duration.{duration_of}
pub use Rattle.ci_values.specs.Layers.{Variables, text_view, value_in}
pub use Rattle.ci_values.specs.Names.{is_name}
pub use Rattle.ci_values.specs.Table.{meaning_of, word_in}
pub use Rattle.ci_values.specs.VariableName.{is_variable_name}
pub use Rattle.ci_values.specs.declared.attempts.Cause.TheVariants.{ApiFailure, JobExecutionTimeout, RunnerSystemFailure, ScriptFailure, StuckOrTimeoutFailure, UnknownFailure}
pub use Rattle.ci_values.specs.declared.limits.TheConstants.{MAX_FILE_BYTES, MAX_NUMBER}
pub use Rattle.ci_values.specs.declared.when.AllowFailure.{AllowFailure}
pub use Rattle.ci_values.specs.declared.when.AllowFailure.TheVariants.{ExitCodes, No, Yes}
pub use Rattle.ci_values.specs.declared.when.Causes.{Causes}
pub use Rattle.ci_values.specs.declared.when.Retry.{Retry}
pub use Rattle.ci_values.specs.declared.when.When.{When}
pub use Rattle.ci_values.specs.declared.when.When.TheVariants.{Manual}
