-- What a CI file says; and a project's file is to be this text.
use Rattle.std.specs.Prelude.{◌≡◌, ℕ, List, [], ◌∷◌, length, Some, Result, Ok, Err}
use Rattle.serde_json.specs.Written.{compact_text}
use Rattle.ci_config.specs.Prelude.{Code, Value}
use Rattle.ci_yaml_lines.specs.Least.{number_of}
use Rattle.ci_yaml.specs.Prelude.{HasTree, IsFault}
use Rattle.ci_graph_layout.specs.Prelude.{ExprCode, X1, X2, X3, X4, X5, X6, X7, X8, Config, Fault, K2, K13, number, Means}
use Rattle.ci_machine.specs.declared.records.Project.{Project}
use Rattle.ci_machine.specs.declared.change.RowChange.TheVariants.{Put}
use Rattle.ci_machine.specs.declared.change.Record.{Record}
use Rattle.ci_machine.specs.declared.reply.Code as reply
use Rattle.ci_machine.specs.declared.reply.FaultCode.TheVariants.{K, X, Y}
use Rattle.ci_machine.specs.declared.reply.Detail.{Detail}
use Rattle.ci_machine.specs.declared.reply.Body.TheVariants.{Json}
use Rattle.ci_machine.specs.Prelude.{file_data}
use Rattle.ci_machine_steps.specs.Plans.{Plan, refused, faulted, fine}

-- ---- faults, as replies name them

-- of lines: `Y5 line 3`
abbrev pub line_fault : Code → ℕ → Detail
line_fault code line = Detail.Line (Y (number_of code)) line

abbrev pub expression_number : ExprCode → ℕ
expression_number X1 = 1
expression_number X2 = 2
expression_number X3 = 3
expression_number X4 = 4
expression_number X5 = 5
expression_number X6 = 6
expression_number X7 = 7
expression_number X8 = 8

-- of keywords: `K6`, `K2 image`, `K13 X4`
abbrev pub keyword_fault : Fault → Detail
keyword_fault (K2 name) = Detail.Keyword (K 2) name
keyword_fault (K13 code) = Detail.Expression (K 13) (X (expression_number code))
keyword_fault fault = Detail.Code (K (number fault))

-- ---- what a file says

-- What a text says: what it configures, or its first fault. Which patterns are refused isn't fixed: X8 may come at any expression
-- that holds a pattern, by `Means`.
pub data IsRead (text : List ℕ) : Result Config Detail → Type 0 where
  configures : (tree : Value) (c : Config) → HasTree text tree → Means tree (Ok c) → IsRead text (Ok c)
  misconfigures : (tree : Value) (fault : Fault) → HasTree text tree → Means tree (Err fault) → IsRead text (Err (keyword_fault fault))
  lacks_tree : (line : ℕ) (code : Code) → IsFault text line code → IsRead text (Err (line_fault code line))

-- ---- a project's file

-- the project has this file, and its reply tells how many of its jobs aren't hidden
abbrev pub file_set : Project → List ℕ → Config → Plan
file_set project text c = (fine (Json (compact_text (file_data (length c.jobs)))), Put (Record.Project (record project { file = Some text })) ∷ [])

abbrev pub set_file : Project → List ℕ → Result Config Detail → Plan
set_file project text (Ok c) = file_set project text c
set_file project text (Err fault) = faulted fault

-- the file of the project that was asked for, if it was, is to be this text
abbrev pub SetsFile : Result Project reply.Code → List ℕ → Plan → Type 0
SetsFile (Err code) text plan = plan ≡ refused code
SetsFile (Ok project) text plan = (said : Result Config Detail) × IsRead text said × (plan ≡ set_file project text said)
