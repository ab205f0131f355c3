-- What is said of a file fits it.
use Rattle.std.proofs.Common.{◌≡◌, ◌⊎◌, inl, inr, ℕ, ◌+◌, List, [], length, take, Option, Some, None, Ok, Err, sym, subst, refl, ap, ◌∙◌, arith, IfSome}
use Rattle.std.specs.Str.{IsUtf8}
use Rattle.std.proofs.lemmas.List.{take_all, length-take-le}
use Rattle.std.proofs.lemmas.Bool.{cases_lt}
use Rattle.ci_machine_steps.specs.Prelude.{MAX_FILE_BYTES, NewPipeline, configures, given_by}
use Rattle.ci_config.specs.Prelude.{Y1, Value}
use Rattle.ci_yaml.specs.Prelude.{HasTree, RefusedBy, GivesTree}
use Rattle.ci_graph_layout.specs.Prelude.{X8, Config, K13, ConfigLacksPatterns, Means, Given}
use Rattle.ci_graph_layout.specs.declared.fault.PlanFault.{PlanFault}
use Rattle.ci_explain.specs.declared.check.verdict.Verdict.{Verdict}
use Rattle.ci_explain.specs.Verdicts.{Fits, FitsText, IsTooLong}
use Rattle.ci_yaml.specs.declared.fault.YamlFault.{YamlFault}
use Rattle.ci_plan.specs.Notes.{notes_of}
use Rattle.ci_plan.specs.Said.{Gives, Tells, Says, SaysText, refusal}
use Rattle.ci_plan.specs.declared.records.Note.{Note}
use Rattle.ci_plan.specs.declared.records.Plan.{Plan}
use Rattle.ci_plan.specs.declared.verdict.Outcome.{Outcome}
use Rattle.ci_plan.specs.declared.verdict.Outcome.TheVariants.{Planned, Refused}

pub says_plan : (text : List ℕ) (tree : Value) (g : Given) (c : Config) (p : Plan) (notes : List Note) → HasTree text tree → Means tree (Ok c) → Tells g c p → notes ≡ notes_of g c tree
    → SaysText text g (Planned p notes)
says_plan text tree g c p notes has means tells are = (c, configures tree c has means, tells, (tree, has, are))

-- where there is a pattern, X8 may be answered
abbrev MayRefuse : Type 0
MayRefuse = (v : Value) (k : Config) → Means v (Ok k) → ConfigLacksPatterns k ⊎ Means v (Err (K13 X8))

refused-by : (tree : Value) (c : Config) → ConfigLacksPatterns c ⊎ Means tree (Err (K13 X8)) → (ConfigLacksPatterns c → ⊥) → Means tree (Err (K13 X8))
refused-by tree c (inr m) some = m
refused-by tree c (inl h) some = absurd (some h)

pub says_fault : (text : List ℕ) (tree : Value) (g : Given) (c : Config) (fault : PlanFault) (v : Verdict) → v ≡ refusal fault → HasTree text tree → Means tree (Ok c) → MayRefuse
    → Gives g c (Err fault) → SaysText text g (Refused v)
says_fault text tree g c PlanFault.Memory v is has means may gives = subst (λ w. SaysText text g (Refused w)) (sym is) (tt, tt)
says_fault text tree g c (PlanFault.Fault code) v is has means may gives = absurd gives
says_fault text tree g c PlanFault.Pattern v is has means may gives =
    subst (λ w. SaysText text g (Refused w)) (sym is) ((tree, has, refused-by tree c (may tree c means) gives), tt)

fits : (bytes : List ℕ) (v : Verdict) → IsUtf8 bytes → FitsText bytes v → Fits bytes v
fits bytes (Verdict.Configures n) utf8 h = (utf8, h)
fits bytes (Verdict.Misconfigured fault) utf8 h = (utf8, h)
fits bytes (Verdict.Refused (YamlFault.Fault code line)) utf8 h = inr (utf8, h)
fits bytes (Verdict.Refused YamlFault.Memory) utf8 h = tt
fits bytes Verdict.NotText utf8 h = absurd h.2
fits bytes Verdict.Unread utf8 h = tt

-- a text whose reading answers this fault
pub says_refused : (text : List ℕ) (g : Given) (fault : YamlFault) → RefusedBy text fault → ((v : Value) → HasTree text v → GivesTree v (Err fault))
    → SaysText text g (Refused (Verdict.Refused fault))
says_refused text g (YamlFault.Fault code line) refused all = ((refused, λ h. all h.0 h.1), tt)
says_refused text g YamlFault.Memory refused all = (tt, tt)

pub says_text : (text : List ℕ) (asked : NewPipeline) (o : Outcome) → IsUtf8 text → SaysText text (given_by asked []) o → Says text asked o
says_text text asked (Planned p notes) utf8 says = (says.0, utf8, says.1, says.2, says.3)
says_text text asked (Refused v) utf8 says = (fits text v utf8 says.0, says.1)

-- What fits the first bytes fits them all: where there are 65,537 or more, the first are too many already.
pub first_says : (told : Option (List ℕ)) (got seen : List ℕ) (asked : NewPipeline) (o : Outcome) → IfSome told (λ bs. got ≡ take (MAX_FILE_BYTES + 1) bs)
    → seen ≡ got → Says seen asked o → (IsTooLong seen → o ≡ Refused (Verdict.Refused (YamlFault.Fault Y1 1))) → IfSome told (λ bs. Says bs asked o)
first_says None got seen asked o first same says long = tt
first_says (Some bs) got seen asked o first same says long = elim (cases_lt (length bs) (MAX_FILE_BYTES + 1)) [
  | inl few ↦ subst (λ b. Says b asked o) (same ∙ first ∙ take_all (MAX_FILE_BYTES + 1) bs (omega (arith, few))) says
  | inr many ↦
      let size : length seen ≡ MAX_FILE_BYTES + 1 = ap length (same ∙ first) ∙ length-take-le (MAX_FILE_BYTES + 1) bs (omega (arith, many)) in
      let is : o ≡ Refused (Verdict.Refused (YamlFault.Fault Y1 1)) = long (omega (arith, size)) in
      subst (λ p. Says bs asked p) (sym is) (inl (omega (arith, many), refl, refl), tt)
]
