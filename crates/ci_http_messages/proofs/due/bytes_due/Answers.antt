use Rattle.std.proofs.Common.{take, drop, arith, subst, length-take-le}
use Rattle.ci_http_messages.specs.Prelude.{head_at, IsOpening}
use Rattle.ci_http_messages.proofs.Dues.{few, enough, head_refused, large_refused}
use Rattle.ci_http_messages.proofs.Codes.{body_within}
use Rattle.ci_http_messages.proofs.due.bytes_due.Goals as goal

pub returns-in-TooLarge-clause-enough : goal.returns-in-TooLarge-clause-enough
returns-in-TooLarge-clause-enough c more _ =
    let large = subst (IsOpening c.args.bytes.now) c.in-TooLarge.is c.opening_in.ensures in
    large_refused c.args.bytes.now large.0 large.1 more

pub overflow_add-result : goal.overflow_add-result
overflow_add-result c =
    let whole = subst (IsOpening c.args.bytes.now) c.in-Whole.is c.opening_in.ensures in
    let size = length-take-le c.in-Whole.len c.args.bytes.now whole.0 in
    let body = body_within (head_at (take c.in-Whole.len c.args.bytes.now) c.frame.new.headers c.in-Ok.field-0-0) c.in-Ok.len c.in-Ok.ensures.len in
    omega (arith, size, body, whole.1)

pub returns-in-Ok-clause-fewer : goal.returns-in-Ok-clause-fewer
returns-in-Ok-clause-fewer c more less =
    let n = c.in-Whole.len in
    let front = take n c.args.bytes.now in
    let whole = subst (IsOpening c.args.bytes.now) c.in-Whole.is c.opening_in.ensures in
    few c.args.bytes.now front (drop n c.args.bytes.now) (head_at front c.frame.new.headers c.in-Ok.field-0-0) c.in-Ok.len c.in-Ok.ensures.head c.in-Ok.ensures.len whole.3 more less

pub returns-in-Ok-clause-enough : goal.returns-in-Ok-clause-enough
returns-in-Ok-clause-enough c more most =
    let n = c.in-Whole.len in
    let front = take n c.args.bytes.now in
    let whole = subst (IsOpening c.args.bytes.now) c.in-Whole.is c.opening_in.ensures in
    enough c.args.bytes.now front (drop n c.args.bytes.now) (head_at front c.frame.new.headers c.in-Ok.field-0-0) c.in-Ok.len c.in-Ok.ensures.head c.in-Ok.ensures.len whole.3 more most

pub returns-in-Err-clause-enough : goal.returns-in-Err-clause-enough
returns-in-Err-clause-enough c more _ =
    let n = c.in-Whole.len in
    let whole = subst (IsOpening c.args.bytes.now) c.in-Whole.is c.opening_in.ensures in
    head_refused c.args.bytes.now (take n c.args.bytes.now) (drop n c.args.bytes.now) c.in-Err.field-0 c.in-Err.ensures.refused whole.3 more
