-- Where a source writes the texts of a tree.
use Rattle.std.specs.Prelude.{◌≡◌, ℕ, suc, ◌+◌, ◌<◌, ◌≤◌, ◌⊎◌, List, [], ◌∷◌, ◌++◌, length, Some, false, ⊤}
use Rattle.ci_yaml_lines.specs.declared.tree.Place.{Place}
use Rattle.ci_yaml_lines.specs.declared.tree.Text.{Text}
use Rattle.ci_yaml.specs.declared.progress.Frame.{Frame}
use Rattle.ci_yaml.specs.declared.progress.Open.{Open}
use Rattle.ci_yaml.specs.declared.progress.Open.TheVariants.{Items, Pairs}
use Rattle.ci_yaml.specs.declared.progress.Progress.{Progress}
use Rattle.ci_yaml.specs.declared.progress.Progress.TheVariants.{Start, Whole, Inside}
use Rattle.ci_yaml_lines.specs.Prelude.{Chomp, Line, parse_line, is_lent, bytes_of, texts_in, items_texts, pairs_texts, given_texts, Writes, StandOn}
use Rattle.ci_yaml.specs.Block.{literal, AreBlock, EndsBlock}
use Rattle.ci_yaml.specs.Document.{last_column}

abbrev pub open_texts : Open → List Text
open_texts (Items v) = items_texts v.items
open_texts (Pairs m k) = pairs_texts m.pairs.items ++ k ∷ []

-- the outermost open node comes first
abbrev pub frames_texts : List Frame → List Text
frames_texts [] = []
frames_texts (f ∷ fs) = open_texts f.members ++ frames_texts fs

abbrev pub state_texts : Progress → List Text
state_texts Start = []
state_texts (Whole t) = texts_in t
state_texts (Inside fs given) = frames_texts fs.items ++ given_texts given

-- ---- a text

-- So many lines of a text come before these, which are the literal block of the line before them, the whole of it.
pub record IsBlockAt (ls : List Line) (n : ℕ) (how : Chomp) (block : List Line) : Type 0 where
  pub before : List Line
  pub header : Line
  pub after : List Line
  pub parts : ls ≡ before ++ header ∷ (block ++ after)
  pub number : n ≡ suc (length before)
  pub header_is : (parse_line header).header ≡ Some how
  pub are : AreBlock (last_column (parse_line header).entries) [] block
  pub ends : EndsBlock (last_column (parse_line header).entries) after

-- The text is what its span holds: a part of a line, with the quotes of a quoted text; or the lines of a literal block, and its
-- words are their own.
pub data IsAt (ls : List Line) (t : Text) : Type 0 where
  on_line : (before : List Line) (l : Line) (after : List Line) (front raw behind : List ℕ)
      → ls ≡ before ++ l ∷ after → l ≡ front ++ raw ++ behind → Writes raw t.words
      → t.span ≡ record {
        start = record { line = suc (length before); column = length front };
        end = record { line = suc (length before); column = length front + length raw };
      } → IsAt ls t
  in_block : (n : ℕ) (how : Chomp) (block : List Line) → IsBlockAt ls n how block → is_lent t.words ≡ false → bytes_of t ≡ literal how block
      → t.span ≡ record {
        start = record { line = suc n; column = 0 };
        end = record { line = suc (n + length block); column = 0 };
      } → IsAt ls t

abbrev pub AllAt : List Line → List Text → Type 0
AllAt ls [] = ⊤
AllAt ls (t ∷ ts) = IsAt ls t × AllAt ls ts

abbrev pub Precedes : Place → Place → Type 0
Precedes p q = (p.line < q.line) ⊎ ((p.line ≡ q.line) × (p.column ≤ q.column))

-- each text ends before the next begins
abbrev pub Ascend : List Text → Type 0
Ascend [] = ⊤
Ascend (t ∷ []) = ⊤
Ascend (t ∷ u ∷ ts) = Precedes t.span.end u.span.start × Ascend (u ∷ ts)

-- each text is what its span holds, and the spans ascend
pub record AreWritten (ls : List Line) (ts : List Text) : Type 0 where
  pub held : AllAt ls ts
  pub ascend : Ascend ts

-- The same, line by line: so many lines of a text come before these, and the texts stand on them one behind the other.
pub data Lines (all : List Line) : ℕ → List Line → List Text → Type 0 where
  none : (n : ℕ) (ls : List Line) → Lines all n ls []
  line : (n : ℕ) (l : Line) (ls : List Line) (us ts both : List Text) → StandOn (suc n) l us → Lines all (suc n) ls ts
      → both ≡ us ++ ts → Lines all n (l ∷ ls) both
  block : (n : ℕ) (ls block rest : List Line) (how : Chomp) (t : Text) (ts : List Text) → ls ≡ block ++ rest
      → IsBlockAt all n how block → is_lent t.words ≡ false → bytes_of t ≡ literal how block
      → t.span ≡ record {
        start = record { line = suc n; column = 0 };
        end = record { line = suc (n + length block); column = 0 };
      } → Lines all (n + length block) rest ts → Lines all n ls (t ∷ ts)

-- After some texts come those of this line, which is counted from 1.
pub record Follow (n : ℕ) (l : Line) (before all : List Text) : Type 0 where
  pub texts : List Text
  pub stand : StandOn n l texts
  pub parts : all ≡ before ++ texts

-- What comes of texts when this text takes the place of the last of them.
pub data Ends (t : Text) (all ending : List Text) : Type 0 where
  no_text : ending ≡ [] → Ends t all ending
  last_text : (before behind : List Text) → all ≡ before ++ behind → ending ≡ before ++ t ∷ [] → Ends t all ending
