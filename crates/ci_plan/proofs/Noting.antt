-- Notes that are put behind others.
use Rattle.std.proofs.Common.{◌≡◌, ◌≢◌, ℕ, ◌+◌, ◌-◌, ◌<◌, Bool, true, false, List, [], ◌∷◌, ◌++◌, length, get_or, take, drop, length-drop, map, Option, Some, None, option_map}
use Rattle.std.proofs.Common.{Result, Ok, Err, if◌then◌else◌, ◌==◌, refl, sym, ap, subst, ◌∙◌, arith, MatchOption}
use Rattle.std.specs.Borrow.{Bor}
use Rattle.std.specs.Global.{Vec}
use Rattle.std.proofs.lemmas.Bool.{eqb-true}
use Rattle.std.proofs.lemmas.Grind.{flat_map-append}
use Rattle.std.proofs.lemmas.List.{at_drop_more, take_all}
use Rattle.ci_machine_steps.specs.Prelude.{Variables}
use Rattle.ci_graph_layout.specs.Prelude.{ExprCode, ExprFault, Tokenizes, tokens_of, Token, token_view, tokens_view, Text, Config, values_view, job_view, JobSpec, Given, seen}
use Rattle.ci_expr.specs.declared.fault.ExprFault.TheVariants.{Fault}
use Rattle.ci_expr.specs.declared.token.Token as rust
use Rattle.ci_expr.specs.Prelude.{Gives}
use Rattle.ci_expr.proofs.TokenLemmas.{tokens_of-sound}
use Rattle.ci_config.specs.Prelude.{Value, value_view, Tree}
use Rattle.ci_config_reader.proofs.Trees.{step}
use Rattle.ci_plan.specs.Notes.{behind_dollar, first_compared, compared, compared_by, compared_in, rules_in, condition_in, of_condition, of_rules, of_jobs, is_noted, each_once, undefined_at, with_names}
use Rattle.ci_plan.specs.declared.notes.Asking.{Asking}
use Rattle.ci_plan.specs.declared.records.Note.{Note}

pub each_once_more : (notes xs ys : List Note) → each_once notes (xs ++ ys) ≡ each_once (each_once notes xs) ys
each_once_more notes [] ys = refl
each_once_more notes (x ∷ xs) ys = each_once_more (if is_noted notes x.variable then notes else notes ++ x ∷ []) xs ys

pub once_more : (a : Asking) (notes : List Note) (xs ys : List Text) → with_names a notes (xs ++ ys) ≡ with_names a (with_names a notes xs) ys
once_more a notes xs ys = ap (each_once notes) (flat_map-append _ xs ys) ∙ each_once_more notes (undefined_at a xs) (undefined_at a ys)

-- ---- along the tokens of a condition
abbrev rest_compared : List rust.Token → List Text
rest_compared ts = compared (map token_view ts)

abbrev rest_first : List rust.Token → List Text
rest_first ts = first_compared (map token_view ts)

pub compared_more : (ts : List rust.Token) (p : ℕ) → p < length ts → rest_compared (drop p ts) ≡ rest_first (drop p ts) ++ rest_compared (drop (p + 1) ts)
compared_more [] p lt = absurd (omega (arith, lt))
compared_more (t ∷ ts) p lt =
    at_drop_more rest_compared (t ∷ ts) p t lt ∙ ap (λ f. f ++ rest_compared (drop (p + 1) (t ∷ ts))) (sym (at_drop_more rest_first (t ∷ ts) p t lt))

pub one_more : (a : Asking) (ts : List rust.Token) (p : ℕ) (old now new : List Note) → p < length ts
    → new ≡ with_names a now (rest_first (take (length ts - p) (drop p ts))) → with_names a now (rest_compared (drop p ts)) ≡ old → with_names a new (rest_compared (drop (p + 1) ts)) ≡ old
one_more a ts p old now new lt is before =
    let whole : take (length ts - p) (drop p ts) ≡ drop p ts = take_all (length ts - p) (drop p ts) (omega (arith, length-drop p ts)) in
    ap (λ ns. with_names a ns (rest_compared (drop (p + 1) ts))) (is ∙ ap (λ us. with_names a now (rest_first us)) whole)
    ∙ sym (once_more a now (rest_first (drop p ts)) (rest_compared (drop (p + 1) ts)))
    ∙ sym (ap (with_names a now) (compared_more ts p lt))
    ∙ before

-- ---- along rules and jobs
pub rule_more : (job : Text) (vs : Variables) (rs : List Tree) (i : ℕ) (r : Tree) (old now new : List Note) → i < length rs → r ≡ get_or rs i r
    → new ≡ each_once now (of_condition job (i + 1) vs (condition_in (value_view r)))
    → each_once now (of_rules job (i + 1) vs (values_view (drop i rs))) ≡ old → each_once new (of_rules job (i + 1 + 1) vs (values_view (drop (i + 1) rs))) ≡ old
rule_more job vs rs i r old now new lt here is before =
    let rest = of_rules job (i + 1 + 1) vs (values_view (drop (i + 1) rs)) in
    ap (λ ns. each_once ns rest) is
    ∙ sym (each_once_more now (of_condition job (i + 1) vs (condition_in (value_view r))) rest)
    ∙ sym (ap (λ us. each_once now (of_rules job (i + 1) vs us)) (step value_view rs i r lt here))
    ∙ before

abbrev of_job : Given → Config → Value → JobSpec → Variables → List Note
of_job g c v j vs = of_rules (job_view j).name 1 vs (rules_in v (job_view j).name)

pub job_more : (g : Given) (c : Config) (v : Value) (js : List JobSpec) (i : ℕ) (j : JobSpec) (vs : Variables) (old now new : List Note) → i < length js → j ≡ get_or js i j
    → vs ≡ seen g c (job_view j) → new ≡ each_once now (of_job g c v j vs)
    → each_once now (of_jobs g c v (map job_view (drop i js))) ≡ old → each_once new (of_jobs g c v (map job_view (drop (i + 1) js))) ≡ old
job_more g c v js i j vs old now new lt here sees is before =
    let rest = of_jobs g c v (map job_view (drop (i + 1) js)) in
    ap (λ ns. each_once ns rest) (is ∙ ap (λ us. each_once now (of_job g c v j us)) sees)
    ∙ sym (each_once_more now (of_job g c v j (seen g c (job_view j))) rest)
    ∙ sym (ap (λ us. each_once now (of_jobs g c v us)) (step job_view js i j lt here))
    ∙ before

-- ---- the tokens of a text
abbrev pub Tells : List ℕ → Result (Vec rust.Token) ExprFault → Type 0
Tells text read = (r : Result (List Token) ExprCode) → Tokenizes text r → Gives tokens_view read r

pub compared_known : (text : List ℕ) (v : Vec rust.Token) → Tells text (Ok v) → compared_in text ≡ compared (map token_view v.items)
unfolding compared_in
compared_known text v tells = ap compared_by (tells (tokens_of text) (tokens_of-sound text))

none-by : (text : List ℕ) (x : ExprCode) → Tells text (Err (Fault x)) → compared_in text ≡ []
unfolding compared_in
none-by text x tells = ap compared_by (tells (tokens_of text) (tokens_of-sound text))

pub compared_none : (text : List ℕ) (fault : ExprFault) (x : ExprCode) → fault ≡ Fault x → Tells text (Err fault) → compared_in text ≡ []
compared_none text fault x is tells = none-by text x (subst (λ f. Tells text (Err f)) is tells)

-- ---- the name of a variable
no_dollar : (b : ℕ) (bs : List ℕ) (is : Bool) → (b == 36) ≡ is → ((rest : List ℕ) → b ∷ bs ≢ 36 ∷ rest) → None ≡ (if is then Some bs else None)
no_dollar b bs false e lacks = refl
no_dollar b bs true e lacks = absurd (lacks bs (ap (λ n. n ∷ bs) (eqb-true b 36 e)))

pub name_is : (bs : List ℕ) (r : Option (Bor (List ℕ))) → MatchOption r ((rest : List ℕ) → bs ≢ 36 ∷ rest) (λ x. bs ≡ 36 ∷ x.now) → option_map (λ s. s.now) r ≡ behind_dollar bs
name_is [] None h = refl
name_is (b ∷ bs) None h = no_dollar b bs (b == 36) refl h
name_is bs (Some x) h = sym (ap behind_dollar h)
