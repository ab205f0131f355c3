-- Which spans the texts of a text's tree have: there is one list of them.
use Rattle.std.specs.Prelude.{◌≡◌, ℕ, suc, ◌+◌, List, [], ◌∷◌, ◌++◌, length, drop, Some, None}
use Rattle.ci_yaml_lines.specs.declared.tree.Span.{Span}
use Rattle.ci_yaml_lines.specs.Prelude.{Chomp, Line, parse_line, line_spans}
use Rattle.ci_yaml.specs.Block.{AreBlock, EndsBlock}
use Rattle.ci_yaml.specs.Document.{last_column}

-- from the first byte of a block's first line to the first of the line behind its last; so many lines come before the block
abbrev pub block_span : ℕ → List Line → Span
block_span n block = record {
  start = record { line = suc n; column = 0 };
  end = record { line = suc (n + length block); column = 0 };
}

-- with this span for the last one
abbrev pub with_last : Span → List Span → List Span
with_last s [] = []
with_last s (t ∷ []) = s ∷ []
with_last s (t ∷ u ∷ ts) = t ∷ with_last s (u ∷ ts)

-- So many lines of a text come before these, whose texts have these spans: on each line outside blocks those of the line; and of a
-- line with a header the last is that of its block.
pub data HaveSpans : ℕ → List Line → List Span → Type 0 where
  none : (n : ℕ) → HaveSpans n [] []
  line : (n : ℕ) (l : Line) (ls : List Line) (more all : List Span) → (parse_line l).header ≡ None
      → HaveSpans (suc n) ls more → all ≡ line_spans (suc n) l ++ more → HaveSpans n (l ∷ ls) all
  block : (n : ℕ) (l : Line) (block rest ls : List Line) (how : Chomp) (more all : List Span) → (parse_line l).header ≡ Some how
      → ls ≡ block ++ rest → AreBlock (last_column (parse_line l).entries) [] block → EndsBlock (last_column (parse_line l).entries) rest
      → HaveSpans (suc n + length block) rest more → all ≡ with_last (block_span (suc n) block) (line_spans (suc n) l) ++ more → HaveSpans n (l ∷ ls) all

-- Once the first lines are read, so many, with texts of these spans, these and those of the other lines are the spans of all.
abbrev pub GoOn : List Line → ℕ → List Span → Type 0
GoOn ls at spans = (more : List Span) → HaveSpans at (drop at ls) more → HaveSpans 0 ls (spans ++ more)
