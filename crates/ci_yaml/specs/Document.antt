-- Which tree a text has, and which fault.
use Rattle.std.specs.Prelude.{◌≡◌, ℕ, suc, ◌<◌, ◌≤◌, true, false, List, [], ◌∷◌, ◌++◌, length, take, Option, Some, None, Contains, ⊤}
use Rattle.std.specs.Str.Lines.{lines}
use Rattle.ci_yaml_lines.specs.Prelude.{MAX_FILE_BYTES, Value, text, when, Chomp, parse_line, Line}
use Rattle.ci_yaml_lines.specs.declared.code.Code.{Code}
use Rattle.ci_yaml_lines.specs.declared.code.Code.TheVariants.{Y1, Y3, Y4, Y5, Y10, Y12}
use Rattle.ci_yaml_lines.specs.Least.{number_of}
use Rattle.ci_yaml_lines.specs.Entry.{Entry}
use Rattle.ci_yaml.specs.Node.{IsDocument}
use Rattle.ci_yaml.specs.Codes.{holds_Y3, holds_Y4, holds_Y5, holds_Y10}
use Rattle.ci_yaml.specs.Block.{is_in_block, literal, block_codes, AreBlock, EndsBlock}

-- ---- the entries of the lines

abbrev pub last_column : List Entry → ℕ
last_column [] = 0
last_column (e ∷ []) = e.column
last_column (e ∷ f ∷ es) = last_column (f ∷ es)

-- with the text of its block for the last entry's value
abbrev pub filled : List Entry → List ℕ → List Entry
filled [] t = []
filled (e ∷ []) t = (record e { given = Some (text t) }) ∷ []
filled (e ∷ f ∷ es) t = e ∷ filled (f ∷ es) t

-- the entries of a line, with the lines of its block if it begins one
abbrev pub entries_with : Option Chomp → List Entry → List Line → List Entry
entries_with None es ls = es
entries_with (Some how) es ls = filled es (literal how ls)

-- where lines end: in no block, or in one below column c, of which these lines have come
pub data Ending : Type 0 where
  outside : Ending
  within : Chomp → ℕ → List Line → Ending

abbrev pub ending_of : List Line → Chomp → ℕ → List Line → Ending → Ending
ending_of [] how c ls end = within how c ls
ending_of (l ∷ rest) how c ls end = end

-- The lines, in which no code of a line holds, say these entries, and end there.
pub data Parses : List Line → List Entry → Ending → Type 0 where
  none : Parses [] [] outside
  line : (l : Line) (ls : List Line) (es all : List Entry) (end : Ending) → (parse_line l).codes ≡ [] → (parse_line l).header ≡ None
      → Parses ls es end → all ≡ (parse_line l).entries ++ es → Parses (l ∷ ls) all end
  block : (l : Line) (block rest ls : List Line) (how : Chomp) (es all : List Entry) (end last : Ending) → (parse_line l).codes ≡ [] → (parse_line l).header ≡ Some how
      → ls ≡ block ++ rest → AreBlock (last_column (parse_line l).entries) [] block → EndsBlock (last_column (parse_line l).entries) rest
      → Parses rest es end → all ≡ filled (parse_line l).entries (literal how block) ++ es
      → last ≡ ending_of rest how (last_column (parse_line l).entries) block end → Parses (l ∷ ls) all last

-- ---- the tree

pub record HasTree (bs : List ℕ) (v : Value) : Type 0 where
  pub size : length bs ≤ MAX_FILE_BYTES
  pub entries : List Entry
  pub end : Ending
  pub parses : Parses (lines bs) entries end
  pub document : IsDocument v entries

-- ---- the fault

-- Lines that begin a text well: they have a tree, or they are skipped.
pub data IsGood (ls : List Line) : Type 0 where
  has_tree : (es : List Entry) (end : Ending) (v : Value) → Parses ls es end → IsDocument v es → IsGood ls
  skipped : (end : Ending) → Parses ls [] end → IsGood ls

abbrev pub IsOutside : Ending → Line → Type 0
IsOutside outside l = ⊤
IsOutside (within how c ls) l = is_in_block c l ≡ false

abbrev pub codes_at : List Entry → Entry → List Code
codes_at before e = when (holds_Y3 before e) Y3 ++ when (holds_Y4 before e) Y4 ++ when (holds_Y5 before e) Y5 ++ when (holds_Y10 before e) Y10

abbrev pub or_else : List Code → List Code → List Code
or_else [] more = more
or_else (c ∷ cs) more = c ∷ cs

-- the codes of the first of a line's entries that cannot stand where it is, after the entries before
abbrev pub place_codes : List Entry → List Entry → List Code
place_codes before [] = []
place_codes before (e ∷ es) = or_else (codes_at before e) (place_codes (before ++ e ∷ []) es)

-- A code holds of a line after the lines before it.
pub data Holds (ls : List Line) (l : Line) (code : Code) : Type 0 where
  of_block : (es : List Entry) (how : Chomp) (c : ℕ) (lines : List Line) → Parses ls es (within how c lines) → is_in_block c l ≡ true
      → Contains (block_codes lines l) code → Holds ls l code
  of_line : (es : List Entry) (end : Ending) → Parses ls es end → IsOutside end l → Contains (parse_line l).codes code → Holds ls l code
  of_place : (es : List Entry) (end : Ending) → Parses ls es end → IsOutside end l → Contains (place_codes es (parse_line l).entries) code → Holds ls l code

-- This code holds of the line after the lines before it, and no lesser code does.
pub record IsLeast (ls : List Line) (l : Line) (code : Code) : Type 0 where
  pub holds : Holds ls l code
  pub least : (other : Code) → Holds ls l other → number_of code ≤ number_of other

-- Why a text has no tree: it is too long; or this line is the first that makes no good beginning, and of the codes that hold
-- of it this is the least; or no line has content.
pub data IsFault (bs : List ℕ) (at : ℕ) (code : Code) : Type 0 where
  too_long : MAX_FILE_BYTES < length bs → at ≡ 1 → code ≡ Y1 → IsFault bs at code
  at_line : length bs ≤ MAX_FILE_BYTES → (before : List Line) (l : Line) (after : List Line) → lines bs ≡ before ++ l ∷ after → at ≡ suc (length before)
      → ((k : ℕ) → k ≤ length before → IsGood (take k before)) → (IsGood (before ++ l ∷ []) → ⊥)
      → IsLeast before l code → IsFault bs at code
  no_content : length bs ≤ MAX_FILE_BYTES → (end : Ending) → Parses (lines bs) [] end → at ≡ 1 → code ≡ Y12 → IsFault bs at code
