use Rattle.std.proofs.Common.{◌≡◌, ◌∙◌, sym, ap, subst, Err, Option}
use Rattle.std.proofs.lemmas.Result.{err_from_is_err_and}
use Rattle.ci_http_messages.specs.Prelude.{Refused, Ended, Memory, Head, IsHeadOf, head_at, Refuses, IsReading, IsReadingCode, AwaitsBody, request, message, Tells, opening_of}
use Rattle.ci_http_messages.specs.Prelude.{opened}
use Rattle.ci_http_messages.proofs.Codes.{refused-code}
use Rattle.ci_http_messages.proofs.Heads.{takes_more}
use Rattle.ci_http_messages.proofs.Readings.{tells_map, tells_then, consumes_tells, reading_large, reading_refused, reading_ended, reading_call, awaits}
use Rattle.ci_http_messages.proofs.call.read_request.Goals as goal

pub returns-in_err-read_head-clause-refused : goal.returns-in_err-read_head-clause-refused
returns-in_err-read_head-clause-refused g c why e =
    let p = err_from_is_err_and c.from_residual.result c.from_residual.ensures.1 in
    let was = c.in_err-read_head.was in
    let same : c.read_head.result ≡ Err (Refused why) = cc in
    let large = c.read_head.ensures.refused why same in
    tells_map _ _ _ _ (reading_large why large) (c.read_head.ensures.too_large (same ∙ ap (λ w. Err (Refused w)) large))

pub returns-in-Err-clause-refused : goal.returns-in-Err-clause-refused
returns-in-Err-clause-refused g c why e =
    let same : c.in-Err.why ≡ why = cc in
    let front = c.as_slice.result.now in
    let how = rw c.in-Err.is at c.frame.ensures.refused in
    let told = subst (λ f. Tells (g.R.Source.left c.args.reader.now) (g.R.Source.left c.read_head.new.reader) (λ b r. opening_of b ≡ (opened f, r))) (sym c.as_slice.ensures.value) c.in_ok-read_head.ensures.head in
    tells_map _ _ _ _ (reading_refused front why (subst (λ w. (x : Option Head) × IsHeadOf front x × Refuses x w) same how)) told

pub returns-in_err-body-clause-ended : goal.returns-in_err-body-clause-ended
returns-in_err-body-clause-ended g c e =
    let p = err_from_is_err_and c.from_residual-in_err-body.result c.from_residual-in_err-body.ensures.1 in
    let was = c.in_err-body.was in
    let same : c.read_body.result ≡ Err Ended = cc in
    let front = c.as_slice.result.now in
    let head = head_at front c.frame.new.headers c.in-Ok.parts.0 in
    let told = subst (λ f. Tells (g.R.Source.left c.args.reader.now) (g.R.Source.left c.read_head.new.reader) (λ b r. opening_of b ≡ (opened f, r))) (sym c.as_slice.ensures.value) c.in_ok-read_head.ensures.head in
    tells_then _ _ _ _ _ _ (reading_ended front head c.in-Ok.parts.1 (rw c.in-Ok.is at c.frame.ensures.head) (rw c.in-Ok.is at c.frame.ensures.len)) told (c.read_body.ensures.ended same)

pub returns-in_err-body-clause-memory : goal.returns-in_err-body-clause-memory
returns-in_err-body-clause-memory g c e =
    let p = err_from_is_err_and c.from_residual-in_err-body.result c.from_residual-in_err-body.ensures.1 in
    let was = c.in_err-body.was in
    let same : c.read_body.result ≡ Err Memory = cc in
    let (stays, some) = c.read_body.ensures.memory same in
    let front = c.as_slice.result.now in
    let head = head_at front c.frame.new.headers c.in-Ok.parts.0 in
    let old = g.R.Source.left c.args.reader.now in
    let told = subst (λ f. Tells old (g.R.Source.left c.read_head.new.reader) (λ b r. opening_of b ≡ (opened f, r))) (sym c.as_slice.ensures.value) c.in_ok-read_head.ensures.head in
    subst (λ w. Tells old (g.R.Source.left w) AwaitsBody) (sym stays)
    (tells_map _ _ _ _ (awaits front head c.in-Ok.parts.1 (rw c.in-Ok.is at c.frame.ensures.head) (rw c.in-Ok.is at c.frame.ensures.len) some) told)

pub returns-clause-call : goal.returns-clause-call
returns-clause-call g c =
    let front = c.as_slice.result.now in
    let head = head_at front c.frame.new.headers c.in-Ok.parts.0 in
    let old = g.R.Source.left c.args.reader.now in
    let mid = g.R.Source.left c.read_head.new.reader in
    let new = g.R.Source.left c.read_body.new.reader in
    let body = c.in_ok-body.body.items in
    let told = subst (λ f. Tells old mid (λ b r. opening_of b ≡ (opened f, r))) (sym c.as_slice.ensures.value) c.in_ok-read_head.ensures.head in
    let whole : Tells old new (λ b r. IsReading b (request (message head body)) r)
    = tells_then _ _ _ old mid new (reading_call front head c.in-Ok.parts.1 body (rw c.in-Ok.is at c.frame.ensures.head) (rw c.in-Ok.is at c.frame.ensures.len) c.in_ok-body.ensures.len) told (consumes_tells mid new body c.in_ok-body.ensures.body) in
    let same = c.as_slice.ensures.value ∙ sym c.as_slice-2.ensures.value in
    subst (λ f. Tells old new (λ b r. IsReading b (request (message (head_at f c.frame.new.headers c.in-Ok.parts.0) body)) r)) same whole

pub returns-in_err-body-clause-took : goal.returns-in_err-body-clause-took
returns-in_err-body-clause-took g c = takes_more _ _ _ c.read_head.ensures.took c.read_body.ensures.took

pub returns-clause-took : goal.returns-clause-took
returns-clause-took g c = takes_more _ _ _ c.read_head.ensures.took c.read_body.ensures.took

pub returns-in_err-read_head-clause-codes : goal.returns-in_err-read_head-clause-codes
returns-in_err-read_head-clause-codes g c why e =
    let p = err_from_is_err_and c.from_residual.result c.from_residual.ensures.1 in
    let was = c.in_err-read_head.was in
    let same : c.read_head.result ≡ Err (Refused why) = cc in
    subst IsReadingCode (sym (c.read_head.ensures.refused why same)) tt

pub returns-in-Err-clause-codes : goal.returns-in-Err-clause-codes
returns-in-Err-clause-codes g c why e =
    let same : c.in-Err.why ≡ why = cc in
    let how = rw c.in-Err.is at c.frame.ensures.refused in
    subst IsReadingCode same (refused-code how.0 c.in-Err.why how.2)
