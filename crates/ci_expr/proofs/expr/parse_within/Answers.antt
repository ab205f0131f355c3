use Rattle.std.proofs.Common.{map, subst}
use Rattle.std.proofs.lemmas.Result.{err_from_is_err_and}
use Rattle.ci_expr.specs.Prelude.{token_view, tokens_view, IsBuilt, parse_of, formula_of}
use Rattle.ci_expr.proofs.ParseLemmas.{one-meaning, untokenized-error, parse-answer, parse-only}
use Rattle.ci_expr.proofs.Wholes.{one-formula}
use Rattle.ci_expr.proofs.expr.parse_within.Goals as goal

pub returns-in_err-found-clause-only : goal.returns-in_err-found-clause-only
returns-in_err-found-clause-only c =
    let p = err_from_is_err_and c.from_residual.result c.from_residual.ensures.1 in
    rw (p.1, p.2) (untokenized-error formula_of c.args.text.now _ c.in_err-found.ensures.only)

pub returns-in_err-found-clause-one : goal.returns-in_err-found-clause-one
returns-in_err-found-clause-one c = one-formula

pub returns-clause-answer : goal.returns-clause-answer
returns-clause-answer c =
    parse-answer formula_of c.args.text.now (tokens_view c.in_ok-found.found) c.parse_tokens.result c.in_ok-found.ensures.answer
    (subst (λ xs. IsBuilt formula_of c.parse_tokens.result (parse_of (map token_view xs))) c.deref.ensures.value c.parse_tokens.ensures.read)

pub returns-clause-only : goal.returns-clause-only
returns-clause-only c =
    parse-only formula_of c.args.text.now (tokens_view c.in_ok-found.found) c.parse_tokens.result c.in_ok-found.ensures.only
    (subst (λ xs. IsBuilt formula_of c.parse_tokens.result (parse_of (map token_view xs))) c.deref.ensures.value c.parse_tokens.ensures.read)

pub returns-clause-one : goal.returns-clause-one
returns-clause-one c = one-formula

pub returns-in_err-found-clause-single : goal.returns-in_err-found-clause-single
returns-in_err-found-clause-single c = one-meaning

pub returns-clause-single : goal.returns-clause-single
returns-clause-single c = one-meaning
