-- Of the same bytes the same line is printed; and X8 comes of a pattern.
use Rattle.std.proofs.Common.{◌≡◌, ◌⊎◌, inl, inr, ◌≤◌, ℕ, List, ◌++◌, length, Result, Ok, Err, refl, sym, ◌∙◌, ap, subst, arith, codes, decimal}
use Rattle.std.specs.Str.{IsUtf8}
use Rattle.ci_config.specs.Prelude.{MAX_FILE_BYTES, Value, Code, X8, Config, Fault, K13, said, code_view, built, LacksPatterns, Means, meaning}
use Rattle.ci_yaml.specs.Prelude.{HasTree, IsFault, too_long}
use Rattle.ci_yaml.specs.declared.fault.YamlFault.{YamlFault}
use Rattle.ci_config.specs.declared.fault.ConfigCode.{ConfigCode}
use Rattle.ci_config.specs.declared.fault.ConfigFault.{ConfigFault}
use Rattle.ci_explain.specs.Verdicts.{Fits, IsTooLong, report_line}
use Rattle.ci_explain.specs.Laws.{RestsOnMore}
use Rattle.ci_explain.specs.declared.check.verdict.Verdict.{Verdict}
use Rattle.ci_explain.specs.declared.check.verdict.Verdict.TheVariants.{Configures, Refused, Misconfigured, NotText, Unread}

-- ---- what the laws of trees and of configurations say

abbrev pub OneTree : Type 0
OneTree = (bytes : List ℕ) (v w : Value) → HasTree bytes v → HasTree bytes w → v ≡ w

abbrev pub NotBoth : Type 0
NotBoth = (bytes : List ℕ) (v : Value) (at : ℕ) (code : Code) → HasTree bytes v → IsFault bytes at code → ⊥

abbrev pub OneFault : Type 0
OneFault = (bytes : List ℕ) (i j : ℕ) (c d : Code) → IsFault bytes i c → IsFault bytes j d → (i ≡ j) × (c ≡ d)

abbrev pub OneAnswer : Type 0
OneAnswer = (v : Value) (r s : Result Config Fault) → Means v r → Means v s → (r ≡ s) ⊎ ((r ≡ Err (K13 X8)) ⊎ (s ≡ Err (K13 X8)))

-- ---- a verdict that rests on the bytes alone

-- the line of what a tree means
abbrev line_of : Result Config Fault → List ℕ
line_of (Ok c) = codes "jobs: " ++ decimal (length c.jobs) ++ codes "\n"
line_of (Err f) = codes "refused: " ++ said f ++ codes "\n"

data Told (bs : List ℕ) (d : Verdict) : Type 0 where
  by_tree : (v : Value) (r : Result Config Fault) → IsUtf8 bs → HasTree bs v → Means v r
      → ((word : List ℕ) → report_line word d ≡ line_of r) → (r ≡ Err (K13 X8) → RestsOnMore d) → Told bs d
  by_fault : (code : Code) (at : ℕ) → (IsTooLong bs ⊎ IsUtf8 bs) → IsFault bs at code → d ≡ Refused (YamlFault.Fault code at) → Told bs d
  no_text : length bs ≤ MAX_FILE_BYTES → (IsUtf8 bs → ⊥) → d ≡ NotText → Told bs d

told : (bs : List ℕ) (d : Verdict) → Fits bs d → RestsOnMore d ⊎ Told bs d
told bs (Configures n) (utf8, (v, has, (c, means, n_is))) =
    inr (by_tree v (Ok c) utf8 has means (λ word. ap (λ k. codes "jobs: " ++ decimal k ++ codes "\n") n_is) (λ e. absurd cc))
told bs (Refused (YamlFault.Fault code at)) (inl (long, code_is, at_is)) = inr (by_fault code at (inl long) (too_long long at_is code_is) refl)
told bs (Refused (YamlFault.Fault code at)) (inr (utf8, lacks)) = inr (by_fault code at (inr utf8) lacks.0 refl)
told bs (Refused YamlFault.Memory) fits = inl tt
told bs (Misconfigured (ConfigFault.Fault code)) (utf8, (v, has, means)) =
    inr (by_tree v (Err (code_view code)) utf8 has means (λ word. refl) (λ e. cc))
told bs (Misconfigured ConfigFault.Memory) fits = inl tt
told bs NotText (short, none) = inr (no_text short none refl)
told bs Unread fits = inl tt

-- ---- two of them

module _ (one_tree : OneTree) (not_both : NotBoth) (one_fault : OneFault) (one_answer : OneAnswer) where
  abbrev SayOne : List ℕ → Verdict → Verdict → Type 0
  SayOne word a b = (report_line word a ≡ report_line word b) ⊎ (RestsOnMore a ⊎ RestsOnMore b)

  by_trees : (word : List ℕ) (a b : Verdict) (r s : Result Config Fault) → report_line word a ≡ line_of r → report_line word b ≡ line_of s
      → (r ≡ Err (K13 X8) → RestsOnMore a) → (s ≡ Err (K13 X8) → RestsOnMore b) → (r ≡ s) ⊎ ((r ≡ Err (K13 X8)) ⊎ (s ≡ Err (K13 X8))) → SayOne word a b
  by_trees word a b r s la lb ma mb (inl e) = inl (la ∙ ap line_of e ∙ sym lb)
  by_trees word a b r s la lb ma mb (inr (inl e)) = inr (inl (ma e))
  by_trees word a b r s la lb ma mb (inr (inr e)) = inr (inr (mb e))

  both : (word bs : List ℕ) (a b : Verdict) → Told bs a → Told bs b → SayOne word a b
  both word bs a b (by_tree v r u hv mr la ma) (by_tree w s u' hw ms lb mb) =
      by_trees word a b r s (la word) (lb word) ma mb (one_answer v r s mr (subst (λ t. Means t s) (sym (one_tree bs v w hv hw)) ms))
  both word bs a b (by_tree v r u hv mr la ma) (by_fault c i t f e) = absurd (not_both bs v i c hv f)
  both word bs a b (by_tree v r u hv mr la ma) (no_text n none e) = absurd (none u)
  both word bs a b (by_fault c i t f e) (by_tree w s u hw ms lb mb) = absurd (not_both bs w i c hw f)
  both word bs a b (by_fault c i t f e) (by_fault d j t' g e') =
      let same = one_fault bs i j c d f g in
      inl (ap (report_line word) (e ∙ ap (λ k. Refused (YamlFault.Fault c k)) same.0 ∙ ap (λ k. Refused (YamlFault.Fault k j)) same.1 ∙ sym e'))
  both word bs a b (by_fault c i (inl long) f e) (no_text n none e') = absurd (omega (arith, long, n))
  both word bs a b (by_fault c i (inr u) f e) (no_text n none e') = absurd (none u)
  both word bs a b (no_text n none e) (by_tree w s u hw ms lb mb) = absurd (none u)
  both word bs a b (no_text n none e) (by_fault c i (inl long) f e') = absurd (omega (arith, long, n))
  both word bs a b (no_text n none e) (by_fault c i (inr u) f e') = absurd (none u)
  both word bs a b (no_text n none e) (no_text m none' e') = inl (ap (report_line word) (e ∙ sym e'))

  from_told : (word bs : List ℕ) (a b : Verdict) → RestsOnMore a ⊎ Told bs a → RestsOnMore b ⊎ Told bs b → SayOne word a b
  from_told word bs a b (inl m) fb = inr (inl m)
  from_told word bs a b (inr t) (inl m) = inr (inr m)
  from_told word bs a b (inr t) (inr u) = both word bs a b t u

  pub one-line : (word bs : List ℕ) (a b : Verdict) → Fits bs a → Fits bs b → SayOne word a b
  one-line word bs a b fa fb = from_told word bs a b (told bs a fa) (told bs b fb)

-- ---- a refused pattern

pub no-x8 : OneTree → ((v : Value) (r : Result Config Fault) → LacksPatterns v → Means v r → r ≡ meaning built v) → ((v : Value) → meaning built v ≡ Err (K13 X8) → ⊥)
    → (bs : List ℕ) (v : Value) (code : ConfigCode) → HasTree bs v → LacksPatterns v → Fits bs (Misconfigured (ConfigFault.Fault code)) → code_view code ≡ K13 X8 → ⊥
no-x8 one_tree once never bs v code has lacks (utf8, (w, has_w, means)) is =
    let same : Means v (Err (code_view code)) = subst (λ t. Means t (Err (code_view code))) (sym (one_tree bs v w has has_w)) means in
    never v (sym (once v (Err (code_view code)) lacks same) ∙ ap (λ f. Err f) is)
