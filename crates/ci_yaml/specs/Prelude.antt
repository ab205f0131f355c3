-- The words of this crate and of those below it, in one place: proofs and the crates above name them from here.
pub use Rattle.ci_yaml.specs.Block.{AreBlock, EndsBlock, block_codes, block_indent, block_lines, first_indent, indent_codes, is_in_block, is_low, is_spaces, kept_len, line_text}
pub use Rattle.ci_yaml.specs.Block.{literal, more_indent, without_end, without_last}
pub use Rattle.ci_yaml.specs.Blocks.{StopsBlock, cut_lines, cut_strip, cut_text, texts_of}
pub use Rattle.ci_yaml.specs.Codes.{all_keep, at_level, awaited, column_open, fits, is_empty, is_key, is_named, is_none, keeps, level_open, open_with, opens_above, repeats_by}
pub use Rattle.ci_yaml.specs.Codes.{stands_at, too_deep}
pub use Rattle.ci_yaml.specs.Document.{Ending, HasTree, Holds, IsFault, IsGood, IsLeast, IsOutside, Parses, at_line, codes_at, ending_of, entries_with, filled, has_tree}
pub use Rattle.ci_yaml.specs.Document.{last_column, no_content, none, of_block, of_place, or_else, outside, place_codes, skipped, too_long, within}
pub use Rattle.ci_yaml.specs.FaultText.{fault_text}
pub use Rattle.ci_yaml.specs.Node.{AreMembers, HasValue, IsDocument, IsNode, IsWithin, deeper, here, nothing, of_node}
pub use Rattle.ci_yaml.specs.ReadLines.{Reader, beginning, content, content_by, ending_at, line_by, line_next, read_lines, stop_or, with_text}
pub use Rattle.ci_yaml.specs.Reading.{State, bare_next, begins, begun, close_all, closed, finished, has_name, inside, is_node, is_open_at, is_repeated, joined, level, member_next}
pub use Rattle.ci_yaml.specs.Reading.{misplaced, next, next_by, run, same_text, settle, start, top_deeper, value_of, whole, whole_of, with_given, ◌>>=◌}
pub use Rattle.ci_yaml.specs.Shape.{AllKeysDiffer, KeysDiffer, depth, members_depth}
pub use Rattle.ci_yaml.specs.Spans.{AllAt, AreWritten, Ascend, Ends, Follow, IsBlockAt, Lines, Precedes, frames_texts, in_block, last_text, no_text, on_line, open_texts}
pub use Rattle.ci_yaml.specs.Spans.{state_texts}
pub use Rattle.ci_yaml.specs.Stops.{AreShort, BlockFails, FailsAt, GivesAt, GivesFault, GivesTree, HasRead, Reads, RefusedBy, StartsOutside, StopsAt, StopsBy, below_view}
pub use Rattle.ci_yaml.specs.Stops.{entered_by, passed_view}
pub use Rattle.ci_yaml.specs.TextSpans.{GoOn, HaveSpans, block_span, with_last}
pub use Rattle.ci_yaml.specs.View.{Gives, NoneJoins, frame_view, frames_onto, frames_view, open_done, open_kind, open_name, state_view}
pub use Rattle.ci_yaml.specs.declared.fault.YamlFault.{YamlFault}
pub use Rattle.ci_yaml.specs.declared.limits.TheConstants.{MAX_DEPTH}
pub use Rattle.ci_yaml.specs.declared.open_map.OpenMap.{OpenMap}
pub use Rattle.ci_yaml.specs.declared.progress.Open.{Open}
pub use Rattle.ci_yaml.specs.declared.progress.Open.TheVariants.{Items, Pairs}
pub use Rattle.ci_values.specs.declared.limits.TheConstants.{MAX_FILE_BYTES}
pub use Rattle.ci_yaml_lines.specs.Entry.{Entry, Head, bare, dash, head_of, key, level_of}
pub use Rattle.ci_yaml_lines.specs.Least.{least, least_of, lesser}
pub use Rattle.ci_yaml_lines.specs.Lent.{is_lent}
pub use Rattle.ci_yaml_lines.specs.Line.{End, Item, Keyed, Line, Listed, ParsedLine, Written, after_place, bracket, clip, comma, cut_place, dashed, entry_of, has_byte_order_mark}
pub use Rattle.ci_yaml_lines.specs.Line.{header_code, inner, is_dash, is_skipped, item, keep, keyed, keyed_or_bare, listed, missing, parse_content, parse_entries, parse_line}
pub use Rattle.ci_yaml_lines.specs.Line.{place, places, plain_place, quoted_place, spaces, strip, unwritten, value, written, written_at}
pub use Rattle.ci_yaml_lines.specs.Scalar.{Quoted, count_of, drop_blanks, head_is, is_quote, negative_of, number_or_text, only_comment, plain_value, quoted, tail_of, trim_end}
pub use Rattle.ci_yaml_lines.specs.Scalar.{when}
pub use Rattle.ci_yaml_lines.specs.Spans.{Stand, StandOn, entries_texts, entry_texts, given_texts, more}
pub use Rattle.ci_yaml_lines.specs.SpansOf.{content_spans, entries_spans, given_spans, item_spans, keyed_spans, line_spans, spans_of}
pub use Rattle.ci_yaml_lines.specs.Tree.{DifferInNames, HaveNoNames, Kind, LacksName, Members, NamesFit, Value, boolean, mapping, member, no_members, node, null, number, push}
pub use Rattle.ci_yaml_lines.specs.Tree.{sequence, text}
pub use Rattle.ci_yaml_lines.specs.TreeTexts.{items_texts, pairs_texts, texts_in, texts_step}
pub use Rattle.ci_yaml_lines.specs.TreeView.{bytes_of, items_view, pairs_view, value_view, view_step}
pub use Rattle.ci_yaml_lines.specs.View.{LeastParsed, chomp_view, entry_view, given_view, least_parsed, parsed_view}
pub use Rattle.ci_yaml_lines.specs.declared.code.Code.{Code}
pub use Rattle.ci_yaml_lines.specs.declared.code.Code.TheVariants.{Y1, Y10, Y11, Y12, Y2, Y3, Y4, Y5, Y6, Y7, Y8, Y9}
pub use Rattle.ci_yaml_lines.specs.declared.cut.SourceLine.{SourceLine}
pub use Rattle.ci_yaml_lines.specs.declared.tree.Span.{Span}
pub use Rattle.ci_yaml_lines.specs.declared.tree.Text.{Text}
pub use Rattle.ci_yaml_lines.specs.declared.tree.Tree.{Tree}
pub use Rattle.ci_yaml_lines.specs.declared.tree.Tree.TheFolds.{fold-roll-Tree, ind-Tree}
pub use Rattle.ci_yaml_lines.specs.declared.tree.Tree.TheOpen.{Tree-F}
pub use Rattle.ci_yaml_lines.specs.declared.tree.Tree.TheViews.{roll-Tree}
