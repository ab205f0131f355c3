use Rattle.std.proofs.Common.{subst}
use Rattle.std.proofs.lemmas.Result.{err_from_is_err_and}
use Rattle.ci_expr.specs.Prelude.{AreAnswered, values_of, looks_view, looks_of}
use Rattle.ci_expr.proofs.Answering.{answered_each, gathered_looks, refused_looks}
use Rattle.ci_expr.proofs.expr.Expr.value.Goals as goal

pub returns-in_err-answers-clause-refused : goal.returns-in_err-answers-clause-refused
returns-in_err-answers-clause-refused c =
    let gathered = gathered_looks _ _ _ (looks_of (values_of c.args.env.now) c.args.self.now) c.deref.ensures.value c.in_ok-put_looks.ensures c.new-looks.ensures.items in
    let p = err_from_is_err_and c.from_residual-in_err-answers.result c.from_residual-in_err-answers.ensures.1 in
    rw (p.1, p.2) (refused_looks (values_of c.args.env.now) c.args.self.now.root _ (looks_view c.deref.result.now) gathered c.in_err-answers.ensures.refused)

pub value_by-requires : goal.value_by-requires
value_by-requires c =
    let looks = looks_of (values_of c.args.env.now) c.args.self.now in
    answered_each c.in_ok-answers.answers looks (subst (λ ls. AreAnswered c.in_ok-answers.answers ls)
    (gathered_looks _ _ _ looks c.deref.ensures.value c.in_ok-put_looks.ensures c.new-looks.ensures.items) c.in_ok-answers.ensures.answered)
