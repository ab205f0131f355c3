-- Where a source writes the texts of a tree.
use Rattle.std.specs.Prelude.{◌≡◌, ℕ, ◌-◌, Bool, List, [], ◌∷◌, ◌++◌, length, Option, Some, None}
use Rattle.ci_yaml_lines.specs.declared.cut.SourceLine.{SourceLine}
use Rattle.ci_yaml_lines.specs.declared.tree.Span.{Span}
use Rattle.ci_yaml_lines.specs.declared.tree.Text.{Text}
use Rattle.ci_yaml_lines.specs.declared.tree.Tree.{Tree}
use Rattle.ci_yaml_lines.specs.declared.entry.Head.{Head}
use Rattle.ci_yaml_lines.specs.declared.entry.Head.TheVariants.{Dash, Key, Bare}
use Rattle.ci_yaml_lines.specs.declared.entry.Entry.{Entry}
use Rattle.ci_yaml_lines.specs.declared.tree.Words.{Words}
use Rattle.ci_yaml_lines.specs.Quoting.{IsQuoted}
use Rattle.ci_yaml_lines.specs.Lent.{IsLent, LentBetween}
use Rattle.ci_yaml_lines.specs.Line.{Line}
use Rattle.ci_yaml_lines.specs.TreeView.{words_of}
pub use Rattle.ci_yaml_lines.specs.TreeTexts.{lists, pairs, texts_step, texts_in, items_texts, pairs_texts}

-- ---- the texts of what was read so far, and of a line's entries

abbrev pub given_texts : Option Tree → List Text
given_texts None = []
given_texts (Some t) = texts_in t

abbrev pub head_texts : Head → List Text
head_texts Dash = []
head_texts (Key k) = k ∷ []
head_texts Bare = []

abbrev pub entry_texts : Entry → List Text
entry_texts e = head_texts e.head ++ given_texts e.given

abbrev pub entries_texts : List Entry → List Text
entries_texts [] = []
entries_texts (e ∷ es) = entry_texts e ++ entries_texts es

-- ---- one line

-- What is written is read as these words: as it stands, and they are lent; or as a scalar with its quotes, and they are lent
-- exactly where they stand between the quotes as they are.
pub data Writes (raw : List ℕ) (words : Words) : Type 0 where
  plain : IsLent raw words → Writes raw words
  in_quotes : (wrong : Bool) → IsQuoted raw (record { text = words_of words; wrong = wrong; rest = [] }) → LentBetween raw words [] → Writes raw words

-- where the bytes stand that come before a rest, in a text that reaches to the line's end as the rest does
abbrev pub span_before : SourceLine → List ℕ → List ℕ → Span
span_before at text rest = record {
  start = record { line = at.line; column = at.end - length text };
  end = record { line = at.line; column = at.end - length rest };
}

-- In a text that reaches to the line's end the texts stand one behind the other, and this rest comes behind them.
pub data Stand (at : SourceLine) : List ℕ → List Text → List ℕ → Type 0 where
  none : (bs front rest : List ℕ) → bs ≡ front ++ rest → Stand at bs [] rest
  more : (bs front raw behind rest : List ℕ) (t : Text) (ts : List Text) → bs ≡ front ++ raw ++ behind
      → Writes raw t.words → t.span ≡ span_before at (raw ++ behind) behind
      → Stand at behind ts rest → Stand at bs (t ∷ ts) rest

-- the texts stand in a line, which is counted from 1
abbrev pub StandOn : ℕ → Line → List Text → Type 0
StandOn n l ts = Stand (record { line = n; end = length l }) l ts []
