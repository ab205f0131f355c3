use Rattle.std.proofs.Common.{◌≡◌, ℕ, List, refl, sym, ap, subst, ◌∙◌, Option, Some, None, Err}
use Rattle.ci_http_messages.specs.Prelude.{Refused, Head, IsHeadOf, head_at, opened, opening_of, Reading, ended, refused, reading_after, IsReadingAt, IsReading}
use Rattle.ci_http_messages.proofs.Readings.{reading_short, reading_large}
use Rattle.ci_http_messages.proofs.laws.each_text_has_a_reading.Goals as goal

-- a text that has a head, of which it is known whether it is a whole one, has a reading
reading_of : (bytes front rest : List ℕ) (head : Option Head) → opening_of bytes ≡ (opened front, rest) → IsHeadOf front head
    → (reading : Reading) × (left : List ℕ) × IsReading bytes reading left
reading_of bytes front rest head e is =
    let r = reading_after head rest in
    (r.0, r.1, subst (λ o. IsReadingAt o (r.0, r.1)) (sym e) (head, is, refl))

pub returns-in-Some : goal.returns-in-Some
returns-in-Some c =
    let rest = c.read_head.new.reader.rest.now in
    reading_of c.args.bytes.now c.as_slice.result.now rest (Some (head_at c.as_slice.result.now c.whole_head.new.headers c.in-Some.field-0)) (c.in-Ok.ensures.head ∙ ap (λ f. (opened f, rest)) (sym c.as_slice.ensures.value)) c.in-Some.ensures.found

pub returns-in-None : goal.returns-in-None
returns-in-None c =
    let rest = c.read_head.new.reader.rest.now in
    reading_of c.args.bytes.now c.as_slice.result.now rest None (c.in-Ok.ensures.head ∙ ap (λ f. (opened f, rest)) (sym c.as_slice.ensures.value)) c.in-None.ensures.none

pub returns-in-Err-Ended : goal.returns-in-Err-Ended
returns-in-Err-Ended c =
    let rest = c.read_head.new.reader.rest.now in
    (ended, rest, reading_short c.args.bytes.now rest (c.read_head.ensures.ended (c.in-Err-Ended.is ∙ ap Err c.in-Err-Ended.field-0-is)))

pub returns-in-Err-Refused : goal.returns-in-Err-Refused
returns-in-Err-Refused c =
    let rest = c.read_head.new.reader.rest.now in
    let why = c.in-Err-Refused.field-0-0 in
    let is = c.in-Err-Refused.is ∙ ap Err c.in-Err-Refused.field-0-is in
    let large = c.read_head.ensures.refused why is in
    (refused why, rest, reading_large why large c.args.bytes.now rest (c.read_head.ensures.too_large (is ∙ ap (λ w. Err (Refused w)) large)))
