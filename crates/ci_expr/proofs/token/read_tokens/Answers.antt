use Rattle.std.proofs.Common.{◌∙◌, arith, subst, sym, ap, map}
use Rattle.std.proofs.lemmas.List.{map_push}
use Rattle.ci_expr.specs.Prelude.{token_view}
use Rattle.ci_expr.proofs.TokenLemmas.{Steps, steps-start, steps-blank, steps-token, fails-of}
use Rattle.ci_expr.proofs.token.read_tokens.Goals as goal

pub all-init : goal.all-init
all-init c = record {
  bound = omega arith;
  steps = subst (λ xs. Steps c.args.text.now 0 (map token_view xs)) (sym c.new-found.ensures.items) (steps-start c.args.text.now);
}

pub all-preserved-then-is_blank : goal.all-preserved-then-is_blank
all-preserved-then-is_blank c = record {
  bound = omega (arith, c.all-test.true);
  steps = steps-blank c.args.text.now c.all.at _ c.all-test.true (rw c.as_bytes.ensures.value at (sym c.is_blank.ensures ∙ c.if-is_blank.true)) c.all.invariant.steps;
}

pub all-preserved : goal.all-preserved
all-preserved c = record {
  bound = c.in-Ok.ensures.size.1;
  steps = subst (λ xs. Steps c.args.text.now c.in-Ok.token.end xs)
      (sym (ap (map token_view) c.in_ok-push-in-Ok.ensures.items ∙ map_push token_view c.all.found.items c.in-Ok.token))
      (steps-token c.args.text.now c.all.at (map token_view c.all.found.items) (token_view c.in-Ok.token) c.all-test.true
      (rw c.as_bytes.ensures.value at (sym c.is_blank.ensures ∙ c.if-is_blank.false)) c.in-Ok.ensures.exact c.in-Ok.ensures.size.0 c.in-Ok.ensures.size.1 c.all.invariant.steps);
}

pub returns-in-Err : goal.returns-in-Err
returns-in-Err c = record {
  exact = fails-of c.args.text.now c.all.at (map token_view c.all.found.items) c.in-Err.stop (omega (arith, c.if-text-gt-MAX_LENGTH.false)) c.all-test.true
      (rw c.as_bytes.ensures.value at (sym c.is_blank.ensures ∙ c.if-is_blank.false)) c.in-Err.ensures.exact c.all.invariant.steps;
}
