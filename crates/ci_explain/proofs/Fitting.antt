-- Which verdicts fit which bytes.
use Rattle.std.proofs.Common.{◌≡◌, ◌+◌, ℕ, inl, inr, List, [], ◌++◌, length, take, None, Some, Option, Err, refl, sym, ◌∙◌, ap, subst, arith, IfSome, option_map}
use Rattle.std.specs.Str.{IsUtf8}
use Rattle.std.proofs.lemmas.List.{take_all, length-take-le}
use Rattle.std.proofs.lemmas.Bool.{cases_lt}
use Rattle.ci_config.specs.Prelude.{MAX_FILE_BYTES, Value, Y1}
use Rattle.ci_yaml.specs.Prelude.{HasTree, RefusedBy, GivesTree}
use Rattle.ci_yaml.specs.declared.fault.YamlFault.{YamlFault}
use Rattle.ci_yaml.specs.declared.fault.YamlFault.TheVariants.{Fault, Memory}
use Rattle.ci_explain.specs.Verdicts.{Fits, FitsText, IsTooLong}
use Rattle.ci_explain.specs.declared.check.verdict.Verdict.{Verdict}
use Rattle.ci_explain.specs.declared.check.verdict.Verdict.TheVariants.{Configures, Refused, Misconfigured, NotText, Unread}

-- a text whose reading answers this fault
pub fault-fits : (bs : List ℕ) (fault : YamlFault) → RefusedBy bs fault → ((v : Value) → HasTree bs v → GivesTree v (Err fault)) → FitsText bs (Refused fault)
fault-fits bs (Fault code line) refused all = (refused, λ h. all h.0 h.1)
fault-fits bs Memory refused all = tt

pub text-fits : (bs : List ℕ) (d : Verdict) → IsUtf8 bs → FitsText bs d → Fits bs d
text-fits bs (Configures n) utf8 fits = (utf8, fits)
text-fits bs (Misconfigured fault) utf8 fits = (utf8, fits)
text-fits bs (Refused (Fault code line)) utf8 fits = inr (utf8, fits)
text-fits bs (Refused Memory) utf8 fits = tt
text-fits bs NotText utf8 fits = absurd fits.2
text-fits bs Unread utf8 fits = tt

-- the first bytes, where a reader tells its bytes
pub first-taken : (told : Option (List ℕ)) (got old : List ℕ) (n : ℕ) → n ≡ MAX_FILE_BYTES + 1 → old ≡ []
    → IfSome (option_map (take n) told) (λ xs. got ≡ old ++ xs) → IfSome told (λ bs. got ≡ take (MAX_FILE_BYTES + 1) bs)
first-taken None got old n limit empty h = tt
first-taken (Some bs) got old n limit empty h = h ∙ ap (λ k. old ++ take k bs) limit ∙ ap (λ o. o ++ take (MAX_FILE_BYTES + 1) bs) empty

-- What fits the first bytes fits them all: where there are 65,537 or more, the first are too many already.
pub first-fits : (told : Option (List ℕ)) (got seen : List ℕ) (v : Verdict) → IfSome told (λ bs. got ≡ take (MAX_FILE_BYTES + 1) bs)
    → seen ≡ got → Fits seen v → (IsTooLong seen → v ≡ Refused (Fault Y1 1)) → IfSome told (λ bs. Fits bs v)
first-fits None got seen v first same fits long = tt
first-fits (Some bs) got seen v first same fits long = elim (cases_lt (length bs) (MAX_FILE_BYTES + 1)) [
  | inl few ↦ subst (λ b. Fits b v) (same ∙ first ∙ take_all (MAX_FILE_BYTES + 1) bs (omega (arith, few))) fits
  | inr many ↦
      let size : length seen ≡ MAX_FILE_BYTES + 1 = ap length (same ∙ first) ∙ length-take-le (MAX_FILE_BYTES + 1) bs (omega (arith, many)) in
      let is : v ≡ Refused (Fault Y1 1) = long (omega (arith, size)) in
      subst (λ w. Fits bs w) (sym is) (inl (omega (arith, many), refl, refl))
]
