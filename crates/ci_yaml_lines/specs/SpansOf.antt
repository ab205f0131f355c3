-- The spans of the texts that a line says, in the order in which they are written: each where the line's definition finds it.
use Rattle.std.specs.Prelude.{ℕ, zero, suc, ◌+◌, List, [], ◌∷◌, ◌++◌, length, drop, Option, Some, None, if◌then◌else◌}
use Rattle.ci_yaml_lines.specs.declared.cut.SourceLine.{SourceLine}
use Rattle.ci_yaml_lines.specs.declared.tree.Span.{Span}
use Rattle.ci_yaml_lines.specs.declared.tree.Text.{Text}
use Rattle.ci_yaml_lines.specs.Tree.{Value, null, boolean, number, text, node}
use Rattle.ci_yaml_lines.specs.Scalar.{drop_blanks, head_is, tail_of, trim_end, Quoted, quoted}
use Rattle.ci_yaml_lines.specs.Line.{Line, End, comma, bracket, missing, place, written_at, written, Keyed, keyed, is_dash, Item, inner, value, item, is_skipped, spaces}
use Rattle.ci_yaml_lines.specs.Spans.{span_before}

abbrev pub spans_of : List Text → List Span
spans_of [] = []
spans_of (t ∷ ts) = t.span ∷ spans_of ts

-- ---- scalars

-- what follows a scalar of these words: the text behind its closing quote, or behind the words
abbrev pub behind_scalar : Option Quoted → List ℕ → List ℕ → List ℕ
behind_scalar None words bs = drop (length words) bs
behind_scalar (Some q) words bs = q.rest

-- where a scalar stands that the text begins with: with its quotes, if it is quoted
abbrev pub scalar_span : SourceLine → Option Quoted → List ℕ → List ℕ → Span
scalar_span at q words bs = span_before at bs (behind_scalar q words bs)

-- the same for a scalar's value: it has a span if it is a text
abbrev pub scalar_spans : SourceLine → Option Quoted → Value → List ℕ → List Span
scalar_spans at q null bs = []
scalar_spans at q (boolean b) bs = []
scalar_spans at q (number n) bs = []
scalar_spans at q (text words) bs = scalar_span at q words bs ∷ []
scalar_spans at q (node kind ms) bs = []

-- ---- lists on one line

abbrev pub spans_behind : End → (List ℕ → List Span) → List Span
spans_behind (comma rest) more = more rest
spans_behind (bracket rest) more = []
spans_behind missing more = []

-- the places of a list from here on; n is more than their number
abbrev pub places_spans : SourceLine → ℕ → List ℕ → List Span
places_spans at zero bs = []
places_spans at (suc n) bs = scalar_spans at (quoted (drop_blanks bs)) (place bs).value (drop_blanks bs) ++ spans_behind (place bs).end (λ rest. places_spans at n rest)

abbrev pub list_spans : SourceLine → List ℕ → List Span
list_spans at bs = if head_is 93 (drop_blanks (tail_of bs)) then [] else places_spans at (length bs) (tail_of bs)

-- ---- lines

-- the value that the text begins with, if one is written
abbrev pub given_spans : SourceLine → Option Value → List ℕ → List Span
given_spans at None bs = []
given_spans at (Some null) bs = []
given_spans at (Some (boolean b)) bs = []
given_spans at (Some (number n)) bs = []
given_spans at (Some (text words)) bs = scalar_span at (quoted bs) words bs ∷ []
given_spans at (Some (node kind ms)) bs = list_spans at bs

-- a key and the value behind its colon, or a value alone
abbrev pub keyed_spans : SourceLine → Option Keyed → List ℕ → List Span
keyed_spans at None bs = given_spans at (written_at bs).given bs
keyed_spans at (Some k) bs = scalar_span at (quoted bs) k.name bs ∷ given_spans at (written 58 k.rest).given (drop_blanks k.rest)

-- what stands behind a dash
abbrev pub item_spans : SourceLine → Item → List ℕ → (List ℕ → List Span) → List Span
item_spans at (inner n rest) bs more = more rest
item_spans at (value w) bs more = given_spans at w.given (drop_blanks bs)

-- the text begins with no blank; n is more than its length
abbrev pub entries_spans : SourceLine → ℕ → List ℕ → List Span
entries_spans at zero bs = []
entries_spans at (suc n) bs = if is_dash bs then item_spans at (item (tail_of bs)) (tail_of bs) (λ rest. entries_spans at n rest) else keyed_spans at (keyed bs) bs

abbrev pub content_spans : SourceLine → List ℕ → List Span
content_spans at bs = if head_is 9 bs then [] else entries_spans at (suc (length bs)) bs

-- A line outside literal blocks, which is counted from 1. That of an empty text stands for a block's text, which the line's header begins.
abbrev pub line_spans : ℕ → Line → List Span
line_spans n l =
    let bs = trim_end (drop (spaces l) l) in
    if is_skipped l then [] else content_spans (record { line = n; end = spaces l + length bs }) bs
