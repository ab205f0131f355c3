use Rattle.std.proofs.Common.{refl, sym, ◌∙◌, arith, drop, length-take}
use Rattle.ci_http_messages.specs.Prelude.{MAX_HEAD_BYTES}
use Rattle.ci_http_messages.proofs.Places.{has_too_many_lines, has_head, ends_early, has_no_end}
use Rattle.ci_http_messages.proofs.head.opening_in.Goals as goal

pub returns-in-Some : goal.returns-in-Some
returns-in-Some c = (drop c.in-Some.len c.args.bytes.now, has_too_many_lines c.args.bytes.now _ c.min-room.result (omega (arith, c.min-room.ensures)) refl c.in-Some.len (sym c.in-Some.is ∙ c.head_len.ensures.len) (omega (arith, c.lines_of.ensures, c.if-lines_of-gt-MAX_HEAD_LINES.true)))

pub returns-in-Some-2 : goal.returns-in-Some-2
returns-in-Some-2 c =
    let most = c.if-lines_of-gt-MAX_HEAD_LINES.false in
    let lines = c.lines_of.ensures in (
      omega (arith, c.in-Some.ensures.within, length-take c.min-room.result c.args.bytes.now),
      omega (arith, c.in-Some.ensures.within, length-take c.min-room.result c.args.bytes.now, c.min-room.ensures),
      omega (arith, lines, most),
      has_head c.args.bytes.now _ c.min-room.result (omega (arith, c.min-room.ensures)) refl c.in-Some.len (sym c.in-Some.is ∙ c.head_len.ensures.len) (omega (arith, lines, most)),
    )

pub returns-in-None : goal.returns-in-None
returns-in-None c = ends_early c.args.bytes.now _ c.min-room.result (omega (arith, c.min-room.ensures)) refl (sym c.in-None.is ∙ c.head_len.ensures.len) c.if-bytes-lt-MAX_HEAD_BYTES.true

pub returns-in-None-2 : goal.returns-in-None-2
returns-in-None-2 c = (drop MAX_HEAD_BYTES c.args.bytes.now, has_no_end c.args.bytes.now _ c.min-room.result (omega (arith, c.min-room.ensures)) refl (sym c.in-None.is ∙ c.head_len.ensures.len) (omega (arith, c.if-bytes-lt-MAX_HEAD_BYTES.false)))
