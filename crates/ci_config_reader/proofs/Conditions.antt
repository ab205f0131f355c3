-- The condition of a rule: what `ci_expr` answers is what is read.
use Rattle.std.proofs.Common.{◌≡◌, ℕ, not, List, [], Result, Ok, Err, refl, sym, ◌∙◌, ap, subst}
use Rattle.ci_config.specs.Prelude.{Expr, ExprCode, ExprFault, formula_of, Formula, Allows, IsOwn, IsMeaning, expression_of, built, refused_at, condition_by, condition_of, K13}
use Rattle.ci_config.specs.Prelude.{Placed, fails}
use Rattle.ci_config_reader.specs.Answer.{builds_with}
use Rattle.ci_config.specs.declared.fault.ConfigCode.{ConfigCode}
use Rattle.ci_config.specs.declared.fault.ReadFault.TheVariants.{Here}
use Rattle.ci_config.proofs.Alike.{taken}

abbrev Read : Type 0
Read = Result Formula ExprCode

-- what is computed is the text's one meaning, as `ci_expr` says
abbrev pub ReadsMeaning : Type 0
ReadsMeaning = (text : List ℕ) → IsMeaning text (expression_of text)

-- ---- what is answered
abbrev okay : Formula → Read
okay f = Ok f

found-by : (text : List ℕ) (e : Expr) (r : Read) → expression_of text ≡ r → IsOwn r → Allows formula_of (Ok e) r → expression_of text ≡ Ok (formula_of e)
found-by text e (Ok f) is own h = is ∙ ap okay h
found-by text e (Err x) is own h = absurd (own h.0)

pub condition-found : ReadsMeaning → (text : List ℕ) (e : Expr) → Allows formula_of (Ok e) (expression_of text) → condition_of text built ≡ Ok (formula_of e)
condition-found law text e h = ap (condition_by built) (found-by text e (expression_of text) refl (law text).0 h)

-- the fault X.. of an expression
abbrev Stops : List ℕ → ExprCode → Type 0
Stops text x = condition_of text (builds_with (Here (ConfigCode.K13 x))) ≡ fails (K13 x)

stops-by : (text : List ℕ) (x : ExprCode) (r : Read) → expression_of text ≡ r → Allows formula_of (Err (ExprFault.Fault x)) r → Stops text x
stops-by text x (Ok f) is (eight, has) = subst (Stops text) (sym eight) (ap (condition_by (refused_at [])) is ∙ ap (λ b. taken f (not b)) has)
stops-by text x (Err y) is h = ap (condition_by (builds_with (Here (ConfigCode.K13 x)))) is ∙ ap (λ z. failed z) h
  where
    failed : ExprCode → Result Formula Placed
    failed z = fails (K13 z)

pub condition-stops : (text : List ℕ) (x : ExprCode) → Allows formula_of (Err (ExprFault.Fault x)) (expression_of text) → Stops text x
condition-stops text x h = stops-by text x (expression_of text) refl h
