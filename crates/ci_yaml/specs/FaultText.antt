-- What a fault says.
use Rattle.std.specs.Prelude.{ℕ, List, ◌++◌, codes, decimal}
use Rattle.ci_yaml.specs.declared.fault.YamlFault.{YamlFault}
use Rattle.ci_yaml.specs.declared.fault.YamlFault.TheVariants.{Memory, Fault}
use Rattle.ci_yaml_lines.specs.Least.{number_of}

-- the code and the line, as `Y5 line 3`
abbrev pub fault_text : YamlFault → List ℕ
fault_text Memory = codes "memory was refused"
fault_text (Fault code line) = codes "Y" ++ decimal (number_of code) ++ codes " line " ++ decimal line
