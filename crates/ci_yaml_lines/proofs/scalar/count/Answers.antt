use Rattle.std.proofs.Common.{◌+◌, ◌-◌, ◌*◌, ◌∙◌, ℕ, ap, sym, arith, drop, get_or}
use Rattle.ci_yaml_lines.proofs.Counts.{count_rest, rest-over, rest-digit}
use Rattle.ci_yaml_lines.proofs.Lists.{drop-at}
use Rattle.ci_yaml_lines.proofs.scalar.count.Goals as goal

pub returns-then-number-gt-MAX_NUMBER-clause-value : goal.returns-then-number-gt-MAX_NUMBER-clause-value
returns-then-number-gt-MAX_NUMBER-clause-value c =
    let bs = c.args.digits.now in
    let i = c.loop-digit.digit-index in
    let d : ℕ = get_or bs i 0 in
    let n : ℕ = c.loop-digit.number in
    sym (rest-over (10 * n + (d - 48)) (drop (i + 1) bs) (omega arith)) ∙ sym (rest-digit n d (drop (i + 1) bs) (omega arith) (omega arith))
    ∙ ap (count_rest n) (sym (drop-at bs i 0 (omega arith))) ∙ c.loop-digit.invariant.rest
