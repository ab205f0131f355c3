-- What the patterns of a file are counted with.
use Rattle.std.proofs.Common.{List, [], ◌∷◌, Option, Some, None, IfSome}
use Rattle.ci_expr.specs.Built as expr
use Rattle.ci_config.specs.Prelude.{Expr, Each, IsRuleMeasured, IsJobMeasured, IsMeasured}
use Rattle.ci_config.specs.declared.file.Config.{Config}

module _ (law : (e : Expr) → expr.IsMeasured e) where
  each-of : {A : Type 0} (P : A → Type 0) → ((x : A) → P x) → (xs : List A) → Each P xs
  each-of P h [] = tt
  each-of P h (x ∷ xs) = (h x, each-of P h xs)

  if-some : {A : Type 0} (P : A → Type 0) → ((x : A) → P x) → (o : Option A) → IfSome o P
  if-some P h None = tt
  if-some P h (Some x) = h x

  pub all-measured : (c : Config) → IsMeasured c
  all-measured c =
      each-of IsJobMeasured (λ j. if-some _ (λ rs. each-of IsRuleMeasured (λ r. if-some _ law r.condition) rs.items) j.rules) c.jobs.items
