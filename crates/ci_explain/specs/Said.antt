-- What is said of a file, by what `check` would say of it.
use Rattle.std.specs.Prelude.{◌≡◌, ℕ, List, ◌++◌, Option}
use Rattle.std.specs.Io.KnownBytes.{Appends}
use Rattle.ci_config.specs.Prelude.{Code, Value}
use Rattle.ci_yaml_lines.specs.Least.{number_of}
use Rattle.ci_yaml.specs.Prelude.{HasTree}
use Rattle.ci_yaml.specs.declared.fault.YamlFault.{YamlFault}
use Rattle.ci_config.specs.declared.fault.ConfigFault.{ConfigFault}
use Rattle.ci_explain.specs.Verdicts.{Fits, report_line, status}
use Rattle.ci_explain.specs.declared.check.verdict.Verdict.{Verdict}
use Rattle.ci_explain.specs.declared.check.verdict.Verdict.TheVariants.{Refused, Misconfigured}
use Rattle.ci_explain.specs.Gitlab.{convert_text}
use Rattle.ci_explain.specs.Report.{report_text, yaml_text}
use Rattle.ci_explain.specs.Told.{InTurn, tolds_view}
use Rattle.ci_explain.specs.declared.place.Found.{Found}

-- the text reports the faults of a text's tree, in turn, and how to convert a file of GitLab's
abbrev pub Reports : List ℕ → List ℕ → List ℕ → Type 0
Reports bytes word text = (v : Value) × HasTree bytes v × ((found : List Found) × InTurn v (tolds_view found) × (text ≡ report_text word found ++ convert_text bytes))

-- the text tells this fault of a text that has no tree, with some sentence, and how to convert a file of GitLab's
abbrev pub ReportsOne : List ℕ → List ℕ → Code → ℕ → List ℕ → Type 0
ReportsOne bytes word code line text = (hint : List ℕ) × (text ≡ yaml_text word line (number_of code) hint ++ convert_text bytes)

-- What is said of a verdict on bytes is the line of `check`, where that tells no fault; where it tells one of keywords, all of them; and one of
-- YAML with a sentence. Behind faults stands how to convert a file of GitLab's.
abbrev pub IsSaid : List ℕ → List ℕ → Verdict → List ℕ → Type 0
IsSaid bytes word (Refused (YamlFault.Fault code line)) text = ReportsOne bytes word code line text
IsSaid bytes word (Misconfigured (ConfigFault.Fault code)) text = Reports bytes word text
IsSaid bytes word verdict text = text ≡ report_line word verdict

-- What is written of a file is said of a verdict on some bytes, and the exit status is the verdict's.
abbrev pub IsWritten : List ℕ → Option (List ℕ) → Option (List ℕ) → ℕ → Type 0
IsWritten word old new result =
    (bytes : List ℕ) × (verdict : Verdict) × Fits bytes verdict × ((text : List ℕ) × IsSaid bytes word verdict text × Appends old new text × (result ≡ status verdict))
