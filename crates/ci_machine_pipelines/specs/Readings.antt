-- What is answered where a text is read.
use Rattle.std.specs.Prelude.{◌≡◌, ⊤, ℕ, List, length, Result, Ok, Err}
use Rattle.ci_config.specs.Prelude.{Value}
use Rattle.ci_yaml.specs.declared.fault.YamlFault.{YamlFault}
use Rattle.ci_graph_layout.specs.Prelude.{Config, code_view, Means, ConfigFault}
use Rattle.ci_config.specs.Fault as keywords
use Rattle.ci_machine_steps.specs.Prelude.{line_fault, keyword_fault, IsRead}
use Rattle.ci_machine_pipelines.specs.declared.files.FileFault.{FileFault}
use Rattle.ci_machine_pipelines.specs.declared.files.FileFault.TheVariants.{Memory, Fault}

abbrev pub yaml_fault : YamlFault → FileFault
yaml_fault YamlFault.Memory = Memory
yaml_fault (YamlFault.Fault code line) = Fault (line_fault code line)

-- a fault of keywords is shown, unless memory ran out
abbrev pub Shows : FileFault → ConfigFault → Type 0
Shows Memory fault = ⊤
Shows (Fault detail) (ConfigFault.Fault code) = detail ≡ keyword_fault (code_view code)
Shows (Fault detail) ConfigFault.Memory = ⊥

-- so many jobs of a tree aren't hidden; or it has this fault, or memory ran out
abbrev pub CountsTree : Value → Result ℕ FileFault → Type 0
CountsTree tree (Ok n) = (c : Config) × Means tree (Ok c) × (n ≡ length c.jobs)
CountsTree tree (Err Memory) = ⊤
CountsTree tree (Err (Fault detail)) = (fault : keywords.Fault) × Means tree (Err fault) × (detail ≡ keyword_fault fault)

-- the same of a text
abbrev pub Counts : List ℕ → Result ℕ FileFault → Type 0
Counts text (Ok n) = (c : Config) × IsRead text (Ok c) × (n ≡ length c.jobs)
Counts text (Err Memory) = ⊤
Counts text (Err (Fault detail)) = IsRead text (Err detail)
