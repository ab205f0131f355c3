use Rattle.std.proofs.Common.{◌≡◌, ◌+◌, ◌<◌, List, ℕ, Some, length, arith, sym, ◌∙◌, ap, subst}
use Rattle.ci_values.specs.Run.{behind}
use Rattle.ci_values.specs.Duration.{after_pair, plus, tail_by, seconds_of}
use Rattle.ci_values.specs.declared.run.Class.TheVariants.{Space}
use Rattle.ci_values.proofs.Sums.{next-shorter, rest-all, rest-none, rest-some, rest-last, rest-more, over, some-left, none-left}
use Rattle.ci_values.proofs.seconds.sum_of.Goals as goal

pub pairs-init : goal.pairs-init
pairs-init c = record { small = omega arith; rest = rest-all c.args.bytes.now }

pub returns-in-None : goal.returns-in-None
returns-in-None c = sym (rest-none c.args.bytes.now c.pairs.rest.now c.pairs.sum c.pairs.invariant.rest (sym c.first_pair-first.ensures.value ∙ c.in-None.is))

pub returns-then-sum-gt-MAX_SECONDS : goal.returns-then-sum-gt-MAX_SECONDS
returns-then-sum-gt-MAX_SECONDS c =
    sym (over c.args.bytes.now (c.pairs.sum + c.in-Some.seconds) (tail_by seconds_of (after_pair c.pairs.rest.now))
    (rest-some c.args.bytes.now c.pairs.rest.now c.pairs.sum c.in-Some.seconds c.pairs.invariant.rest (sym c.first_pair-first.ensures.value ∙ c.in-Some.is))
    (omega (arith, c.if-sum-gt-MAX_SECONDS.true)))

pub returns-then-is_empty : goal.returns-then-is_empty
returns-then-is_empty c =
    c.in_range.ensures ∙ sym (rest-last c.args.bytes.now c.pairs.rest.now c.pairs.sum c.in-Some.seconds c.pairs.invariant.rest (sym c.first_pair-first.ensures.value ∙ c.in-Some.is)
    (sym c.first_pair-first.ensures.after ∙ none-left c.first_pair-first.result.1.now (sym c.is_empty.ensures ∙ c.if-is_empty.true)))

pub pairs-smaller : goal.pairs-smaller
pairs-smaller c =
    let next : c.split.result.1.now ≡ behind Space (after_pair c.pairs.rest.now) = c.split.ensures.behind ∙ ap (behind Space) c.first_pair-first.ensures.after in
    subst (λ (xs : List ℕ). length xs < length c.pairs.rest.now) (sym next) (next-shorter c.pairs.rest.now c.in-Some.seconds (sym c.first_pair-first.ensures.value ∙ c.in-Some.is))

pub pairs-preserved : goal.pairs-preserved
pairs-preserved c =
    let next : c.split.result.1.now ≡ behind Space (after_pair c.pairs.rest.now) = c.split.ensures.behind ∙ ap (behind Space) c.first_pair-first.ensures.after in
    record {
      small = omega (arith, c.if-sum-gt-MAX_SECONDS.false);
      rest = subst (λ (xs : List ℕ). seconds_of c.args.bytes.now ≡ plus (Some (c.pairs.sum + c.in-Some.seconds)) (seconds_of xs)) (sym next)
          (rest-more c.args.bytes.now c.pairs.rest.now c.pairs.sum c.in-Some.seconds c.pairs.invariant.rest (sym c.first_pair-first.ensures.value ∙ c.in-Some.is)
          (λ none. some-left c.first_pair-first.result.1.now (sym c.is_empty.ensures ∙ c.if-is_empty.false) (c.first_pair-first.ensures.after ∙ none)));
    }
