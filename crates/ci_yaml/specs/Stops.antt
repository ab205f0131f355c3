-- Where the reading of lines stops, and what the code has when it goes on.
use Rattle.std.specs.Prelude.{◌≡◌, ℕ, suc, ◌+◌, ◌≤◌, ◌⊎◌, List, [], ◌∷◌, ◌++◌, length, take, drop, Option, Some, None, Result, Ok, Err, ⊤}
use denote.Bor.{Bor}
use Rattle.ci_yaml_lines.specs.Prelude.{MAX_FILE_BYTES, Value, chomp_view, value_view, LeastParsed, lesser, Line}
use Rattle.ci_yaml_lines.specs.declared.code.Code.TheVariants.{Y12}
use Rattle.ci_yaml_lines.specs.declared.tree.Tree.{Tree}
use Rattle.ci_yaml_lines.specs.declared.code.Code.{Code}
use Rattle.ci_yaml.specs.declared.fault.YamlFault.{YamlFault}
use Rattle.ci_yaml_lines.specs.declared.entry.Chomp.{Chomp}
use Rattle.ci_yaml.specs.declared.reader.Passed.{Passed}
use Rattle.ci_yaml.specs.View.{state_view}
use Rattle.ci_yaml.specs.Reading.{State, run, finished}
use Rattle.ci_yaml.specs.Block.{AreBlock}
use Rattle.ci_yaml.specs.Document.{Ending, outside, within, last_column, IsOutside, IsFault}
use Rattle.ci_yaml.specs.Blocks.{texts_of, StopsBlock}
use Rattle.ci_yaml.specs.ReadLines.{Reader, stop_or, ending_at, line_next, read_lines, beginning}

abbrev pub below_view : Option (Chomp × ℕ) → Ending
below_view None = outside
below_view (Some b) = within (chomp_view b.0) b.1 []

abbrev pub passed_view : Passed → Reader
passed_view p = record { state = state_view p.progress; end = below_view p.below }

-- Reading what a line says, by the least code of the line itself.
abbrev pub entered_by : Result State Code → LeastParsed → Result Reader Code
entered_by (Ok s) sp = stop_or sp.code (record { state = s; end = ending_at sp.header (last_column sp.entries) })
entered_by (Err c) sp = Err (lesser c sp.code)

abbrev pub entered : State → LeastParsed → Result Reader Code
entered s sp = entered_by (run s sp.entries) sp

-- What a function returned of the line of this number is what reading gives, unless memory ran out.
abbrev pub FailsAt : {Y : Type 0} → ℕ → YamlFault → Result Y Code → Type 0
FailsAt n YamlFault.Memory read = ⊤
FailsAt n (YamlFault.Fault c m) read = (read ≡ Err c) × (m ≡ n)

abbrev pub GivesAt : {X Y : Type 0} → (X → Y) → ℕ → Result X YamlFault → Result Y Code → Type 0
GivesAt view n (Ok x) read = read ≡ Ok (view x)
GivesAt view n (Err e) read = FailsAt n e read

-- A fault in the block below column c that follows `at` lines: the line that it names is the first that cannot follow
-- those before it, and the code is the least that holds of it.
abbrev pub BlockFails : ℕ → ℕ → List (Bor (List ℕ)) → YamlFault → Type 0
BlockFails c at ls YamlFault.Memory = ⊤
BlockFails c at ls (YamlFault.Fault code n) =
    (k : ℕ) × (n ≡ at + k + 1) × AreBlock c [] (texts_of (take k ls)) × StopsBlock c (texts_of (take k ls)) (texts_of (drop k ls)) code

-- The lines before the one of this number can be read, and it can't follow them, for this reason.
pub record StopsAt (ls : List Line) (at : ℕ) (code : Code) : Type 0 where
  pub before : List Line
  pub stop : Line
  pub after : List Line
  pub reader : Reader
  pub parts : ls ≡ before ++ stop ∷ after
  pub number : at ≡ suc (length before)
  pub read : read_lines beginning before ≡ Ok reader
  pub fault : line_next reader stop ≡ Err code

abbrev pub StopsBy : List Line → YamlFault → Type 0
StopsBy ls YamlFault.Memory = ⊤
StopsBy ls (YamlFault.Fault code at) = StopsAt ls at code

-- the first of these lines is in no block that is open
abbrev pub StartsOutside : Ending → List Line → Type 0
StartsOutside end [] = ⊤
StartsOutside end (l ∷ ls) = IsOutside end l

-- The first lines, so many, are read to this state, and the next belongs to no block.
pub record HasRead (ls : List Line) (at : ℕ) (st : State) : Type 0 where
  pub end : Ending
  pub read : read_lines beginning (take at ls) ≡ Ok (record { state = st; end = end })
  pub next : StartsOutside end (drop at ls)

-- no line is longer than a text may be
abbrev pub AreShort : List Line → Type 0
AreShort [] = ⊤
AreShort (l ∷ ls) = (length l ≤ MAX_FILE_BYTES) × AreShort ls

-- ---- a text

-- What reading lines to their end gives: their tree, the fault of the first that can't follow, or, where no line has content, Y12.
abbrev pub Reads : List Line → Result Tree YamlFault → Type 0
Reads ls (Ok t) = (r : Reader) × (read_lines beginning ls ≡ Ok r) × (finished r.state ≡ Some (value_view t))
Reads ls (Err YamlFault.Memory) = ⊤
Reads ls (Err (YamlFault.Fault code at)) = StopsAt ls at code ⊎ ((r : Reader) × (read_lines beginning ls ≡ Ok r) × (finished r.state ≡ None) × (at ≡ 1) × (code ≡ Y12))

-- The fault is the one that the text has.
abbrev pub RefusedBy : List ℕ → YamlFault → Type 0
RefusedBy bs YamlFault.Memory = ⊤
RefusedBy bs (YamlFault.Fault code at) = IsFault bs at code

-- The tree is the one that was returned, unless memory ran out.
abbrev pub GivesTree : Value → Result Tree YamlFault → Type 0
GivesTree v (Ok t) = value_view t ≡ v
GivesTree v (Err YamlFault.Memory) = ⊤
GivesTree v (Err (YamlFault.Fault code at)) = ⊥

-- The fault is the one that was returned, unless memory ran out.
abbrev pub GivesFault : ℕ → Code → Result Tree YamlFault → Type 0
GivesFault at code (Ok t) = ⊥
GivesFault at code (Err YamlFault.Memory) = ⊤
GivesFault at code (Err (YamlFault.Fault c n)) = (n ≡ at) × (c ≡ code)
