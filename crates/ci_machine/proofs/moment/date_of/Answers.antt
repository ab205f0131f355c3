use Rattle.std.proofs.Common.{◌≤◌, ◌/◌, pos, ap, ◌∙◌, arith}
use Rattle.jiff_fmt.specs.Text.{date_text}
use Rattle.ci_machine.proofs.Days.{date_text-day_at}
use Rattle.ci_machine.proofs.moment.date_of.Goals as goal

pub returns : goal.returns
returns c =
    let is = c.seconds-days.ensures.is in
    let days = c.args.moment / 86400 in
    let high : days ≤ 2_932_896 = omega (arith, is, c.seconds-days.ensures.in_range) in
    ap date_text c.from_plain.ensures ∙ date_text-day_at c.date_after.result days (c.date_after.ensures ∙ ap (λ n. pos (n / 86400)) is) high
