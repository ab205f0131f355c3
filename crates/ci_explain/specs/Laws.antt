-- Which verdicts rest on more than the bytes.
use Rattle.std.specs.Prelude.{◌≡◌, ⊤}
use Rattle.ci_yaml.specs.declared.fault.YamlFault.{YamlFault}
use Rattle.ci_config.specs.Prelude.{X8, K13, code_view}
use Rattle.ci_config.specs.declared.fault.ConfigFault.{ConfigFault}
use Rattle.ci_explain.specs.declared.check.verdict.Verdict.{Verdict}
use Rattle.ci_explain.specs.declared.check.verdict.Verdict.TheVariants.{Refused, Misconfigured, Unread}

-- on what reads the bytes, on memory, or on a pattern that `regex` refuses
abbrev pub RestsOnMore : Verdict → Type 0
RestsOnMore (Refused YamlFault.Memory) = ⊤
RestsOnMore (Misconfigured ConfigFault.Memory) = ⊤
RestsOnMore (Misconfigured (ConfigFault.Fault code)) = code_view code ≡ K13 X8
RestsOnMore Unread = ⊤
RestsOnMore other = ⊥
