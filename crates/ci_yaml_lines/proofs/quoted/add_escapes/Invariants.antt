use Rattle.std.proofs.Common.{◌≡◌, ◌∷◌, length, string_bytes}
use denote.Text.{Utf8}
use denote.Shadow.{shadow}
use Rattle.ci_yaml_lines.specs.Prelude.{double, with_words, with_wrong}
use Rattle.ci_yaml_lines.proofs.quoted.add_escapes.Given as goal

abbrev pub invariant-escapes : goal.invariant-escapes
invariant-escapes l = shadow (Utf8 l.rest) × (with_words (string_bytes l.words) (with_wrong l.wrong (double (92 ∷ l.rest))) ≡ with_words (string_bytes l.fn.words) (double (92 ∷ l.fn.rest)))

abbrev pub decreases-escapes : goal.decreases-escapes
decreases-escapes l = length l.rest
