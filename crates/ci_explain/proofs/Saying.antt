-- What is written where memory was refused.
use Rattle.std.proofs.Common.{◌≡◌, ◌⊎◌, inl, inr, ℕ, List, [], Option, refl}
use Rattle.std.specs.Io.KnownBytes.{Appends}
use Rattle.ci_yaml.specs.declared.fault.YamlFault.TheVariants.{Memory}
use Rattle.ci_explain.specs.Verdicts.{report_line, status}
use Rattle.ci_explain.specs.declared.check.verdict.Verdict.TheVariants.{Refused}
use Rattle.ci_explain.specs.Said.{IsWritten}

pub refusal-is-written : (word : List ℕ) (old new : Option (List ℕ)) (result : ℕ)
    → (Appends old new (report_line word (Refused Memory)) × (result ≡ status (Refused Memory))) ⊎ (result ≡ 3) → IsWritten word old new result ⊎ (result ≡ 3)
refusal-is-written word old new result (inl h) = inl ([], Refused Memory, tt, (report_line word (Refused Memory), refl, h.0, h.1))
refusal-is-written word old new result (inr h) = inr h
