use Rattle.std.proofs.Common.{◌≡◌, ◌-◌, ◌+◌, ◌≤◌, ◌++◌, length, map}
use denote.Text.{Utf8}
use denote.Shadow.{shadow}
use Rattle.ci_yaml_lines.specs.Prelude.{MAX_FILE_BYTES, parse_entries, entry_view, with_entries, least_parsed, Stand, entries_texts, spans_of, entries_spans}
use Rattle.ci_yaml_lines.proofs.line.parse_entries.Given as goal

abbrev pub invariant-dashes : goal.invariant-dashes
invariant-dashes l =
    shadow (Utf8 l.rest) × (l.column + length l.rest ≤ MAX_FILE_BYTES)
    × (with_entries (map entry_view l.entries.items) (least_parsed (parse_entries (l.n - l.i) l.column l.rest)) ≡ least_parsed (parse_entries l.fn.n l.fn.column l.fn.text))
    × Stand l.fn.source l.fn.text (entries_texts l.entries.items) l.rest
    × (spans_of (entries_texts l.entries.items) ++ entries_spans l.fn.source (l.n - l.i) l.rest ≡ entries_spans l.fn.source l.fn.n l.fn.text)
