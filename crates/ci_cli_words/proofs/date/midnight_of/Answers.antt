use Rattle.std.proofs.Common.{sym, subst, arith}
use Rattle.std.proofs.lemmas.Option.{IfSome_then}
use Rattle.ci_cli_words.specs.Dates.{IsDateAt}
use Rattle.ci_cli_words.proofs.Written.{Holds, is_date, is_midnight, if_none_then}
use Rattle.ci_cli_words.proofs.date.midnight_of.Goals as goal

holds : (c : goal.After-midnight) → Holds c.as_bytes.result.now c.in_ok-pair_of.field-0 c.in_ok-year.field-0 c.in_ok-pair_of-2.field-0 c.in_ok-pair_of-3.field-0
holds c = record {
  long = omega (arith, c.in-len10.len_at_least, c.in-len10.len_below);
  first = c.if-first-ne45.false;
  second = c.if-second-ne45.false;
  century = c.in_ok-pair_of.ensures.value;
  year = c.in_ok-year.ensures.value;
  month = c.in_ok-pair_of-2.ensures.value;
  day = c.in_ok-pair_of-3.ensures.value;
}

pub returns-clause-value : goal.returns-clause-value
returns-clause-value c =
    IfSome_then c.midnight.result c.midnight.ensures.value (λ s m. subst (λ text. IsDateAt text s) c.as_bytes.ensures.value (is_date _ _ _ _ _ s (holds c) m))

pub returns-clause-none : goal.returns-clause-none
returns-clause-none c =
    if_none_then c.midnight.result c.midnight.ensures.none (λ not s m. not s (is_midnight _ _ _ _ _ s (holds c) (subst (λ text. IsDateAt text s) (sym c.as_bytes.ensures.value) m)))
