use Rattle.std.proofs.Common.{None, map, arith, ap}
use Rattle.std.proofs.lemmas.Result.{err_from_is_err_and}
use Rattle.ci_expr.specs.Prelude.{token_view}
use Rattle.ci_expr.proofs.DerivedIsRead.{shorter, part-fails, part-alone, joined-reads, joined-fails, group-fails, group-by}
use Rattle.ci_expr.proofs.descent.+descent.Goals as goal

pub chain_from-returns-in_err-first-clause-exact : goal.chain_from-returns-in_err-first-clause-exact
chain_from-returns-in_err-first-clause-exact t c =
    let p = err_from_is_err_and c.from_residual.result c.from_residual.ensures.1 in
    rw (p.1, p.2) (part-fails c.args.join (map token_view c.args.tokens.now) _ c.in_err-first.ensures.exact)

pub chain_from-returns-in-None-clause-exact : goal.chain_from-returns-in-None-clause-exact
chain_from-returns-in-None-clause-exact t c = part-alone c.args.join _ _ _ c.in_ok-first.ensures.exact (rw c.sign_of.ensures at c.in-None.ensures.value)

pub chain_from-returns-in_err-others-in-Some-clause-exact : goal.chain_from-returns-in_err-others-in-Some-clause-exact
chain_from-returns-in_err-others-in-Some-clause-exact t c =
    let p = err_from_is_err_and c.from_residual-in_err-others-in-Some.result c.from_residual-in_err-others-in-Some.ensures.1 in
    let less = shorter c.in-Some.more.now c.args.tokens.now (omega (arith, c.in-Some.ensures.size, c.in_ok-first.ensures.size)) in
    rw (p.1, p.2) (joined-fails c.args.join _ _ _ _ _ c.in_ok-first.ensures.exact (rw c.sign_of.ensures at c.in-Some.ensures.value) less c.in_err-others-in-Some.ensures.exact)

pub chain_from-returns-in_ok-others-in-Some-2-clause-exact : goal.chain_from-returns-in_ok-others-in-Some-2-clause-exact
chain_from-returns-in_ok-others-in-Some-2-clause-exact t c = λ n le.
    let less = shorter c.in-Some.more.now c.args.tokens.now (omega (arith, c.in-Some.ensures.size, c.in_ok-first.ensures.size)) in
    rw (c.in_ok-first-in-Some.ensures.ok, c.in_ok-others-in-Some-2.ensures.ok)
    (joined-reads c.args.join _ _ _ _ _ c.in_ok-first.ensures.exact (rw c.sign_of.ensures at c.in-Some.ensures.value) less c.in_ok-others-in-Some.ensures.exact n le)

pub test_from-returns-in_err-inner-in-Left-clause-exact : goal.test_from-returns-in_err-inner-in-Left-clause-exact
test_from-returns-in_err-inner-in-Left-clause-exact t c =
    let p = err_from_is_err_and c.from_residual.result c.from_residual.ensures.1 in
    rw (p.1, p.2) (group-fails _ _ _ _ (ap (map token_view) c.in-Some.ensures.cases.0) c.in-Left.is c.in_err-inner-in-Left.ensures.exact)

pub test_from-returns-in-Left-clause-exact : goal.test_from-returns-in-Left-clause-exact
test_from-returns-in-Left-clause-exact t c =
    group-by _ _ _ _ _ None (ap (map token_view) c.in-Some.ensures.cases.0) c.in-Left.is c.in_ok-inner-in-Left.ensures.exact c.in-None-behind.ensures.value
