use Rattle.std.proofs.Common.{nat_eq, sym, ap, ◌∙◌, arith}
use Rattle.std.specs.List.{starts_with}
use Rattle.ci_http_messages.specs.Prelude.{empty_line}
use Rattle.ci_http_messages.proofs.Places.{begins_later, left_there}
use Rattle.ci_http_messages.proofs.head.head_len.Goals as goal

pub loop-at-preserved : goal.loop-at-preserved
loop-at-preserved c =
    let end = c.loop-at.auto.at-end in
    let text = c.args.text.now in
    let i = c.loop-at.at in
    begins_later text i (omega (arith, end, c.loop-at-test.true)) (ap (λ l. starts_with nat_eq l empty_line) (sym (left_there i text)) ∙ (sym c.begins_empty_line.ensures ∙ c.if-begins_empty_line.false)) c.loop-at.invariant
