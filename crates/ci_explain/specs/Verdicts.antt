-- What is said of a file's bytes.
use Rattle.std.specs.Prelude.{◌≡◌, ◌≢◌, ◌<◌, ◌≤◌, ◌⊎◌, ℕ, List, ◌++◌, length, Option, Result, Ok, Err, IfSome, ⊤, codes, decimal}
use Rattle.std.specs.IoError.{error_kind}
use Rattle.std.specs.Str.{IsUtf8}
use Rattle.std.specs.declared.io.Error.{Error}
use Rattle.std.specs.declared.io.ErrorKind.{ErrorKind}
use Rattle.std.specs.declared.io.ErrorKind.TheVariants.{OutOfMemory}
use Rattle.ci_config.specs.Prelude.{MAX_FILE_BYTES, Value, Code, Y1, Config, said, code_view, Means}
use Rattle.ci_yaml.specs.Prelude.{HasTree, RefusedBy, fault_text}
use Rattle.ci_yaml.specs.declared.fault.YamlFault.{YamlFault}
use Rattle.ci_config.specs.declared.fault.ConfigFault.{ConfigFault}
use Rattle.ci_explain.specs.declared.check.verdict.Verdict.{Verdict}
use Rattle.ci_explain.specs.declared.check.verdict.Verdict.TheVariants.{Configures, Refused, Misconfigured, NotText, Unread}

abbrev pub IsTooLong : List ℕ → Type 0
IsTooLong bs = MAX_FILE_BYTES < length bs

abbrev pub HasSomeTree : List ℕ → Type 0
HasSomeTree bs = (v : Value) × HasTree bs v

-- a text has no tree, for this reason
abbrev pub LacksTree : List ℕ → Code → ℕ → Type 0
LacksTree bs code line = RefusedBy bs (YamlFault.Fault code line) × (HasSomeTree bs → ⊥)

-- The verdict fits a tree: so many jobs that it configures, or the first fault of its keywords.
abbrev pub FitsTree : Value → Verdict → Type 0
FitsTree v (Configures n) = (c : Config) × Means v (Ok c) × (n ≡ length c.jobs)
FitsTree v (Misconfigured (ConfigFault.Fault code)) = Means v (Err (code_view code))
FitsTree v (Misconfigured ConfigFault.Memory) = ⊤
FitsTree v other = ⊥

-- the verdict fits the tree that the text has
abbrev pub FitsItsTree : List ℕ → Verdict → Type 0
FitsItsTree bs verdict = (v : Value) × HasTree bs v × FitsTree v verdict

-- The verdict fits a text, which has a tree or has none.
abbrev pub FitsText : List ℕ → Verdict → Type 0
FitsText bs (Refused (YamlFault.Fault code line)) = LacksTree bs code line
FitsText bs (Refused YamlFault.Memory) = ⊤
FitsText bs other = FitsItsTree bs other

-- The verdict fits the bytes of a file. Bytes that are too many are no text and no tree, whatever they hold; a file may
-- always fail to be read, and memory may always be refused.
abbrev pub Fits : List ℕ → Verdict → Type 0
Fits bs (Configures n) = IsUtf8 bs × FitsText bs (Configures n)
Fits bs (Refused (YamlFault.Fault code line)) = (IsTooLong bs × (code ≡ Y1) × (line ≡ 1)) ⊎ (IsUtf8 bs × LacksTree bs code line)
Fits bs (Refused YamlFault.Memory) = ⊤
Fits bs (Misconfigured fault) = IsUtf8 bs × FitsText bs (Misconfigured fault)
Fits bs NotText = (length bs ≤ MAX_FILE_BYTES) × (IsUtf8 bs → ⊥)
Fits bs Unread = ⊤

-- what is said where a file could not be opened or read: that memory was refused, where that is the fault, and else that it
-- could not be read
abbrev pub TellsUnread : ErrorKind → Verdict → Type 0
TellsUnread kind verdict = (kind ≡ OutOfMemory → verdict ≡ Refused YamlFault.Memory) × (kind ≢ OutOfMemory → verdict ≡ Unread)

-- what is said of a file that was opened fits all its bytes, where its reader tells them; of another, why it wasn't opened
abbrev pub IsSaidOf : {R : Type 0} → (R → Option (List ℕ)) → Result R Error → Verdict → Type 0
IsSaidOf remaining (Ok reader) verdict = IfSome (remaining reader) (λ bytes. Fits bytes verdict)
IsSaidOf remaining (Err fault) verdict = TellsUnread (error_kind fault) verdict

abbrev pub status : Verdict → ℕ
status (Configures n) = 0
status (Refused fault) = 1
status (Misconfigured fault) = 1
status NotText = 3
status Unread = 3

-- the line that is printed of what a word names
abbrev pub report_line : List ℕ → Verdict → List ℕ
report_line word (Configures n) = codes "jobs: " ++ decimal n ++ codes "\n"
report_line word (Refused (YamlFault.Fault code line)) = codes "refused: " ++ fault_text (YamlFault.Fault code line) ++ codes "\n"
report_line word (Refused YamlFault.Memory) = codes "refused: M16\n"
report_line word (Misconfigured (ConfigFault.Fault code)) = codes "refused: " ++ said (code_view code) ++ codes "\n"
report_line word (Misconfigured ConfigFault.Memory) = codes "refused: M16\n"
report_line word NotText = codes "cannot read " ++ word ++ codes "\n"
report_line word Unread = codes "cannot read " ++ word ++ codes "\n"
