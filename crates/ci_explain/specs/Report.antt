-- The text that is printed of faults.
use Rattle.std.specs.Prelude.{ℕ, Bool, List, [], ◌++◌, length, filter, flat_map, Option, Some, None, not, ◌==◌, if◌then◌else◌, codes, decimal, string_bytes, option_map}
use Rattle.ci_config.specs.Prelude.{said, code_view}
use Rattle.ci_explain.specs.declared.place.Found.{Found}

-- where a fault is: its job and its rule
unfoldable pub job_text : Option (List ℕ) → Option ℕ → List ℕ
job_text None rule = []
job_text (Some job) None = codes "job `" ++ job ++ codes "`: "
job_text (Some job) (Some rule) = codes "job `" ++ job ++ codes "`, rule " ++ decimal rule ++ codes ": "

-- the line of a fault in the file that a word names
unfoldable pub line_text : List ℕ → Found → List ℕ
line_text word f =
    word ++ codes ":" ++ decimal f.line ++ codes ": " ++ job_text (option_map string_bytes f.job) f.rule ++ said (code_view f.code) ++ codes ": " ++ f.hint.now ++ codes "\n"

-- what comes of others alone isn't printed
abbrev pub is_printed : Found → Bool
is_printed f = not f.follows

abbrev pub printed_text : List ℕ → Found → List ℕ
printed_text word f = if f.follows then [] else line_text word f

unfoldable pub count_text : ℕ → List ℕ
count_text n = if n == 1 then codes "1 fault\n" else decimal n ++ codes " faults\n"

abbrev pub report_text : List ℕ → List Found → List ℕ
report_text word fs = flat_map (printed_text word) fs ++ count_text (length (filter is_printed fs))

-- the line of a fault of a text that has no tree, by the number of its code
unfoldable pub yaml_line : List ℕ → ℕ → ℕ → List ℕ → List ℕ
yaml_line word line number hint = word ++ codes ":" ++ decimal line ++ codes ": Y" ++ decimal number ++ codes ": " ++ hint ++ codes "\n"

abbrev pub yaml_text : List ℕ → ℕ → ℕ → List ℕ → List ℕ
yaml_text word line number hint = yaml_line word line number hint ++ count_text 1
