use Rattle.std.proofs.Common.{subst}
use Rattle.httparse.specs.Spans.{RequestOverflows}
use Rattle.ci_http_messages.proofs.Lines.{not_whole, no_head}
use Rattle.ci_http_messages.proofs.head.whole_head.Goals as goal

pub returns-in_default-clause-none : goal.returns-in_default-clause-none
returns-in_default-clause-none c h reads =
    let found = rw c.in-Ok-Complete.field-0-is at c.in-Ok-Complete.ensures.complete in
    let within = rw c.in-Ok-Complete.field-0-is at c.in-Ok-Complete.ensures.within in
    not_whole c.args.bytes.now found.0 h c.in-Ok-Complete.spans.len found.1.reads within.section.len_fits c.if-spans-bytes.false reads

pub returns-in_default-3-clause-none : goal.returns-in_default-3-clause-none
returns-in_default-3-clause-none c h reads =
    let over = rw c.in_default.is at c.parse_request.ensures.no_room in
    no_head c.args.bytes.now h c.requires.lines (subst (λ n. RequestOverflows n c.args.bytes.now) c.requires.room over) reads
