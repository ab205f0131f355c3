use Rattle.std.proofs.Common.{◌≡◌, ap, sym, true, arith, ◌<◌, ◌+◌, nat_lt, ℕ, Some, None, if◌then◌else◌}
use Rattle.std.proofs.lemmas.Int.Digits.{digits_value_more}
use Rattle.std.proofs.lemmas.Str.Parse.{digits_value-take-le}
use Rattle.std.proofs.lemmas.Bool.Decides.{nat_tests}
use Rattle.ci_values.specs.Numbers.{within}
use Rattle.ci_values.proofs.number.value_within.Goals as goal

over : (limit n : ℕ) → limit < n → None ≡ within limit n
over limit n h =
    let test : nat_lt limit n ≡ true = grind (arith, nat_tests) in
    sym (ap (λ b. if b then None else Some n) test)

pub returns-then-value-limit : goal.returns-then-value-limit
returns-then-value-limit c =
    let more = digits_value_more 10 c.args.digits.now c.loop-b.b-index c.loop-b-test.true in
    let most = digits_value-take-le 10 c.args.digits.now (c.loop-b.b-index + 1) (omega arith) in
    let before = c.loop-b.invariant.0 in
    let digit = c.digit_of.ensures.value in
    let large = c.if-value-limit.true in
    over c.args.limit _ (omega arith)

pub loop-b-preserved : goal.loop-b-preserved
loop-b-preserved c =
    let more = digits_value_more 10 c.args.digits.now c.loop-b.b-index c.loop-b-test.true in
    let before = c.loop-b.invariant.0 in
    let digit = c.digit_of.ensures.value in
    let less = c.if-value-limit.false in
    (omega arith, omega arith)
