use Rattle.std.proofs.Common.{◌≡◌, ◌∷◌, length, string_bytes}
use denote.Text.{Utf8}
use denote.Shadow.{shadow}
use Rattle.ci_yaml_lines.specs.Prelude.{single, with_words}
use Rattle.ci_yaml_lines.proofs.quoted.add_pairs.Given as goal

abbrev pub invariant-pairs : goal.invariant-pairs
invariant-pairs l = shadow (Utf8 l.rest) × (with_words (string_bytes l.words) (single (39 ∷ l.rest)) ≡ with_words (string_bytes l.fn.words) (single (39 ∷ l.fn.rest)))

abbrev pub decreases-pairs : goal.decreases-pairs
decreases-pairs l = length l.rest
