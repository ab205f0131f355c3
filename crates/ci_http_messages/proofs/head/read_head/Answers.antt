use Rattle.std.proofs.Common.{◌∙◌, ap, subst, arith, take, nat_eq, count_by, true, false}
use Rattle.std.proofs.lemmas.Bool.{lt-ltb, le-ltb}
use Rattle.std.specs.List.{ends_with}
use Rattle.std.specs.Io.KnownBytes.{Consumes}
use Rattle.ci_http_messages.specs.Prelude.{empty_line, is_line_feed}
use Rattle.ci_http_messages.proofs.Heads.{taken_more, whole_read, taken_ended, taken_all, whole_opens, one_byte, takes_more}
use Rattle.ci_http_messages.proofs.head.read_head.Goals as goal

pub loop-preserved : goal.loop-preserved
loop-preserved g c =
    let got = c.in_ok-get.ensures in
    let old = g.R.Source.left c.args.reader.now in
    let mid = g.R.Source.left c.loop.reader in
    let new = g.R.Source.left c.get.new.self in
    let one = one_byte c.in_ok-get.field-0 c.get.new.buf c.if-branch-eq0.false got.room c.get.auto.buf in (
      taken_more old mid new c.loop.head.items c.push.new.self.items _ c.loop.counter c.ends_head.result c.loop.invariant.0
          (subst (λ l. Consumes mid new l) one got.bytes.0) c.push.ensures.items
          (c.ends_head.ensures ∙ ap (λ l. ends_with nat_eq l empty_line) c.as_slice.ensures.value)
          c.if-ends_head.false,
      got.count ∙ c.loop.invariant.1,
    )

pub returns-then-ends_head-clause-head : goal.returns-then-ends_head-clause-head
returns-then-ends_head-clause-head g c =
    let whole = whole_read _ _ _ _ _ c.get.new.buf c.in_ok-get.field-0 _ _ c.loop.invariant.0 c.if-branch-eq0.false c.in_ok-get.ensures.room c.get.auto.buf
    c.in_ok-get.ensures.bytes.0 c.push.ensures.items (c.ends_head.ensures ∙ ap (λ l. ends_with nat_eq l empty_line) c.as_slice.ensures.value)
    c.if-ends_head.true c.loop-test.true in
    let count = c.lines_of.ensures ∙ ap (λ l. count_by is_line_feed l) c.as_slice-then-ends_head.ensures.value in
    let least = c.if-lines_of-gt-MAX_HEAD_LINES.false in
    whole_opens _ _ c.push.new.self.items false whole (le-ltb _ _ (omega arith))

pub returns-then-lines_of-gt-MAX_HEAD_LINES-clause-too_large :
    goal.returns-then-lines_of-gt-MAX_HEAD_LINES-clause-too_large
returns-then-lines_of-gt-MAX_HEAD_LINES-clause-too_large g c _ =
    let whole = whole_read _ _ _ _ _ c.get.new.buf c.in_ok-get.field-0 _ _ c.loop.invariant.0 c.if-branch-eq0.false c.in_ok-get.ensures.room c.get.auto.buf
    c.in_ok-get.ensures.bytes.0 c.push.ensures.items (c.ends_head.ensures ∙ ap (λ l. ends_with nat_eq l empty_line) c.as_slice.ensures.value)
    c.if-ends_head.true c.loop-test.true in
    let count = c.lines_of.ensures ∙ ap (λ l. count_by is_line_feed l) c.as_slice-then-ends_head.ensures.value in
    let more = c.if-lines_of-gt-MAX_HEAD_LINES.true in
    whole_opens _ _ c.push.new.self.items true whole (lt-ltb _ _ (omega arith))

pub returns-then-branch-eq0-clause-ended : goal.returns-then-branch-eq0-clause-ended
returns-then-branch-eq0-clause-ended g c _ =
    let got = c.in_ok-get.ensures in
    let mid = g.R.Source.left c.loop.reader in
    let new = g.R.Source.left c.get.new.self in
    let none = c.if-branch-eq0.true in
    taken_ended (g.R.Source.left c.args.reader.now) mid new c.loop.head.items c.loop.counter c.loop.invariant.0 c.loop-test.true
    (subst (λ k. Consumes mid new (take k c.get.new.buf)) none got.bytes.0) (got.bytes.1 none (omega (arith, c.get.auto.buf)))

pub returns-clause-too_large : goal.returns-clause-too_large
returns-clause-too_large g c _ =
    let a = c.loop-test.false in let b = c.loop.auto.counter-end in
    taken_all (g.R.Source.left c.args.reader.now) (g.R.Source.left c.loop.reader) c.loop.head.items c.loop.counter c.loop.invariant.0 (omega arith)

pub returns-then-ends_head-clause-took : goal.returns-then-ends_head-clause-took
returns-then-ends_head-clause-took g c =
    takes_more (g.R.Source.left c.args.reader.now) (g.R.Source.left c.loop.reader) (g.R.Source.left c.get.new.self) (_, c.loop.invariant.0.told) (_, c.in_ok-get.ensures.bytes.0)

pub returns-then-lines_of-gt-MAX_HEAD_LINES-clause-took :
    goal.returns-then-lines_of-gt-MAX_HEAD_LINES-clause-took
returns-then-lines_of-gt-MAX_HEAD_LINES-clause-took g c =
    takes_more (g.R.Source.left c.args.reader.now) (g.R.Source.left c.loop.reader) (g.R.Source.left c.get.new.self) (_, c.loop.invariant.0.told) (_, c.in_ok-get.ensures.bytes.0)
