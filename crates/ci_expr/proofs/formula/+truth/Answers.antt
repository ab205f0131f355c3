use Rattle.std.proofs.Common.{rules, ◌≡◌, ◌++◌, Bool, true, false, not, refl, sym}
use Rattle.ci_expr.specs.Prelude.{AreAnswered, Values, answered, same_look, formula_view, looks_in, joined, truth, Join}
use Rattle.ci_expr.specs.declared.answers.Answers.{Answers}
use Rattle.ci_expr.specs.declared.formula.Formula as formulas
use Rattle.ci_expr.proofs.Answering.{among-left, among-right}
use Rattle.ci_expr.proofs.formula.+truth.Goals as goal

-- the value of the first part that decides
abbrev deciding : Join → Bool
deciding Join.Or = true
deciding Join.And = false

module _ (answers : Answers) (vs : Values) (a b : formulas.Formula) (j : Join) (x : Bool) (says : AreAnswered answers (looks_in vs a) → x ≡ truth vs (formula_view a))
    (all : AreAnswered answers (looks_in vs a ++ looks_in vs b)) where
  first : x ≡ truth vs (formula_view a)
  first = says (among-left same_look (looks_in vs a) (looks_in vs b) (answered answers) all)

  by-first : (k : Join) → j ≡ k → x ≡ deciding k → x ≡ truth vs (joined j (formula_view a) (formula_view b))
  by-first Join.Or e is = rw (e, sym first, is) refl
  by-first Join.And e is = rw (e, sym first, is) refl

  by-second : (k : Join) (y : Bool) → j ≡ k → x ≡ not (deciding k) → (AreAnswered answers (looks_in vs b) → y ≡ truth vs (formula_view b))
      → y ≡ truth vs (joined j (formula_view a) (formula_view b))
  by-second Join.Or y e is second = rw (e, sym first, is) (second (among-right same_look (looks_in vs a) (looks_in vs b) (answered answers) all))
  by-second Join.And y e is second = rw (e, sym first, is) (second (among-right same_look (looks_in vs a) (looks_in vs b) (answered answers) all))

pub returns-then-truth : goal.returns-then-truth
returns-then-truth t c = let k = c.in-Joined-Or-default-default in rw k.is
    (λ all. by-first c.args.answers.now _ k.a.value k.b.value k.field-0 _ (rw c.deref.ensures at c.truth.ensures) all Join.Or (search rules) c.if-truth.true)

pub returns-else-truth : goal.returns-else-truth
returns-else-truth t c = let k = c.in-Joined-Or-default-default in rw k.is
    (λ all. by-second c.args.answers.now _ k.a.value k.b.value k.field-0 _ (rw c.deref.ensures at c.truth.ensures) all Join.Or _ (search rules) c.if-truth.false
    (rw c.deref-else-truth.ensures at c.truth-else-truth.ensures))

pub returns-then-truth-2 : goal.returns-then-truth-2
returns-then-truth-2 t c = let k = c.in-Joined-And-default-default in rw k.is
    (λ all. by-second c.args.answers.now _ k.a.value k.b.value k.field-0 _ (rw c.deref-in-Joined-And-default-default.ensures at c.truth-in-Joined-And-default-default.ensures) all
    Join.And _ (search rules) c.if-truth-2.true (rw c.deref-then-truth-2.ensures at c.truth-then-truth-2.ensures))

pub returns-else-truth-2 : goal.returns-else-truth-2
returns-else-truth-2 t c = let k = c.in-Joined-And-default-default in rw k.is
    (λ all. by-first c.args.answers.now _ k.a.value k.b.value k.field-0 _ (rw c.deref-in-Joined-And-default-default.ensures at c.truth-in-Joined-And-default-default.ensures) all
    Join.And (search rules) c.if-truth-2.false)
