-- What the parts of a line say of where its texts stand.
use Rattle.std.specs.Prelude.{◌≡◌, ℕ, List, [], Option, Some, None, ⊤, ◌∷◌}
use Rattle.ci_yaml_lines.specs.declared.cut.SourceLine.{SourceLine}
use Rattle.ci_yaml_lines.specs.declared.tree.Text.{Text}
use Rattle.ci_yaml_lines.specs.declared.quoted.Quoted.{Quoted}
use Rattle.ci_yaml_lines.specs.declared.line.Keyed.{Keyed}
use Rattle.ci_yaml_lines.specs.declared.line.Item.{Item}
use Rattle.ci_yaml_lines.specs.declared.line.Item.TheVariants.{Inner, Value as ItemValue}
use Rattle.ci_yaml_lines.specs.Scalar.{drop_blanks, tail_of}
use Rattle.ci_yaml_lines.specs.Spans.{Stand, given_texts}
use Rattle.ci_yaml_lines.specs.SpansOf.{spans_of, given_spans}
use Rattle.ci_yaml_lines.specs.View.{given_view}
use Rattle.std.specs.Borrow.{Bor}
use Rattle.ci_yaml_lines.specs.declared.tree.Span.{Span}
use Rattle.ci_yaml_lines.specs.Lent.{IsLent}
use Rattle.ci_yaml_lines.specs.Tree.{Value, null, boolean, number, text, node}
use Rattle.ci_yaml_lines.specs.declared.flow.End.{End}
use Rattle.ci_yaml_lines.specs.declared.flow.End.TheVariants.{Comma, Bracket, Missing}

-- ---- a plain scalar

-- no text, or one that is lent, has these bytes and this span
abbrev pub OnlyText : List ℕ → Span → List Text → Type 0
OnlyText bs span [] = ⊤
OnlyText bs span (t ∷ []) = IsLent bs t.words × (t.span ≡ span)
OnlyText bs span (t ∷ u ∷ ts) = ⊥

-- this span, if the value is a text
abbrev pub text_spans : Span → Value → List Span
text_spans span null = []
text_spans span (boolean b) = []
text_spans span (number n) = []
text_spans span (text bs) = span ∷ []
text_spans span (node kind ms) = []

-- ---- a list on one line

-- nothing is said to follow a place that has no end
abbrev pub behind_end : End → List ℕ
behind_end (Comma s) = s.now
behind_end (Bracket s) = s.now
behind_end Missing = []

-- nor a list that isn't closed
abbrev pub behind_list : Option (Bor (List ℕ)) → List ℕ
behind_list None = []
behind_list (Some s) = s.now

-- ---- what a line says

-- Where the first texts stand before the rest, the second stand in all of it.
abbrev pub GoOn : SourceLine → List Text → List ℕ → List Text → Type 0
GoOn at ts rest us = (bs : List ℕ) → Stand at bs ts rest → Stand at bs us []

-- the key is the quoted scalar, and its rest comes behind the colon
abbrev pub KeyOf : Option Quoted → Option Keyed → Type 0
KeyOf q None = ⊤
KeyOf None (Some k) = ⊥
KeyOf (Some q) (Some k) = (k.name ≡ q.text) × (k.rest.now ≡ tail_of (drop_blanks q.rest.now))

-- what stands behind a dash
abbrev pub ItemStands : SourceLine → List ℕ → Item → Type 0
ItemStands at bs (Inner n s) = Stand at bs [] s.now
ItemStands at bs (ItemValue w) = Stand at bs (given_texts w.given) []

-- and which spans it has, if it is a value
abbrev pub ItemHasSpans : SourceLine → List ℕ → Item → Type 0
ItemHasSpans at bs (Inner n s) = ⊤
ItemHasSpans at bs (ItemValue w) = spans_of (given_texts w.given) ≡ given_spans at (given_view w.given) (drop_blanks bs)
