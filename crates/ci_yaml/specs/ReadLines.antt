-- Reading lines one after the other.
use Rattle.std.specs.Prelude.{ℕ, List, [], ◌∷◌, ◌++◌, Option, Some, None, Result, Ok, Err, if◌then◌else◌}
use Rattle.ci_yaml_lines.specs.declared.code.Code.{Code}
use Rattle.ci_yaml_lines.specs.Prelude.{lesser, least, text, Chomp, ParsedLine, parse_line, Line}
use Rattle.ci_yaml.specs.Reading.{◌>>=◌, State, start, whole, inside, run}
use Rattle.ci_yaml.specs.Block.{is_in_block, block_codes, literal}
use Rattle.ci_yaml.specs.Document.{Ending, outside, within, entries_with, last_column}

pub record Reader : Type 0 where
  pub state : State
  pub end : Ending

-- with the text of the block so far for the value of the last entry
abbrev pub with_text : List ℕ → State → State
with_text t start = start
with_text t (whole v) = whole (text t)
with_text t (inside fs given) = inside fs (Some (text t))

abbrev pub stop_or : Option Code → Reader → Result Reader Code
stop_or None r = Ok r
stop_or (Some c) r = Err c

abbrev pub ending_at : Option Chomp → ℕ → Ending
ending_at None c = outside
ending_at (Some how) c = within how c []

-- a line outside blocks, once its entries were read
abbrev pub content_by : Result State Code → ParsedLine → Result Reader Code
content_by (Ok s) sp = stop_or (least sp.codes) (record { state = s; end = ending_at sp.header (last_column sp.entries) })
content_by (Err c) sp = Err (lesser c (least sp.codes))

abbrev pub content : State → ParsedLine → Result Reader Code
content s sp = content_by (run s (entries_with sp.header sp.entries [])) sp

abbrev pub line_by : Ending → State → Line → Result Reader Code
line_by outside s l = content s (parse_line l)
line_by (within how c ls) s l =
    if is_in_block c l then stop_or (least (block_codes ls l)) (record { state = with_text (literal how (ls ++ l ∷ [])) s; end = within how c (ls ++ l ∷ []) })
    else content s (parse_line l)

abbrev pub line_next : Reader → Line → Result Reader Code
line_next r l = line_by r.end r.state l

abbrev pub read_lines : Reader → List Line → Result Reader Code
read_lines r [] = Ok r
read_lines r (l ∷ ls) = line_next r l >>= λ s. read_lines s ls

-- before the first line
abbrev pub beginning : Reader
beginning = record { state = start; end = outside }
