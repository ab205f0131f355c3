use Rattle.std.proofs.Common.{◌≡◌, ℕ, List, [], ◌∷◌, Option, Some, None, refl, ap, ◌∙◌, if◌then◌else◌}
use Rattle.std.specs.Str.{bytes_eq}
use Rattle.ci_config.specs.Prelude.{Variables, or_else, meaning_of, value_of}
use Rattle.ci_config.proofs.laws.looks_up_alike.Goals as goal

same : (vs : Variables) (name : List ℕ) → value_of vs name ≡ meaning_of vs name
same [] name = refl
same (v ∷ vs) name = ap (λ rest. if bytes_eq v.0 name then Some v.1 else rest) (same vs name)

alone : (o : Option (List ℕ)) → o ≡ or_else o None
alone None = refl
alone (Some x) = refl

pub returns-clause-one : goal.returns-clause-one
returns-clause-one c = same

pub returns-clause-layer : goal.returns-clause-layer
returns-clause-layer c = λ vs name. same vs name ∙ alone (meaning_of vs name)
