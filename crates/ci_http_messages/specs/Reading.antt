-- The request that a text begins with, or why it begins with none.
use Rattle.std.specs.Prelude.{◌≡◌, ◌<◌, ℕ, List, [], length, take, drop, nat_lt, if◌then◌else◌, Option, Some, None, Result, Ok, Err, ⊤}
use Rattle.ci_machine.specs.declared.reply.Code.{Code}
use Rattle.ci_machine.specs.declared.reply.Code.TheVariants.{H1, H2, H3, H4, H8}
use Rattle.ci_http_messages.specs.Opening.{Opening, short, too_large, opened, opening_of}
use Rattle.ci_http_messages.specs.Head.{Head, IsHeadOf}
use Rattle.ci_http_messages.specs.BodyLength.{body_length}

-- A request as it was sent.
pub record Message : Type 0 where
  pub method : List ℕ
  pub target : List ℕ
  pub fields : List (List ℕ × List ℕ)
  pub body : List ℕ

abbrev pub message : Head → List ℕ → Message
message head body = record { method = head.method; target = head.target; fields = head.fields; body = body }

-- What a text is: it ends before a request does, or is refused, or begins with a request.
pub data Reading : Type 0 where
  ended : Reading
  refused : Code → Reading
  request : Message → Reading

-- what follows a head with a body of this length is the body, and the rest
abbrev pub reading_by : Head → List ℕ → Result ℕ Code → Reading × List ℕ
reading_by head after (Err why) = (refused why, after)
reading_by head after (Ok len) = if nat_lt (length after) len then (ended, []) else (request (message head (take len after)), drop len after)

abbrev pub reading_after : Option Head → List ℕ → Reading × List ℕ
reading_after None after = (refused H1, after)
reading_after (Some head) after = reading_by head after (body_length head)

abbrev pub IsReadingAt : Opening × List ℕ → Reading × List ℕ → Type 0
IsReadingAt (short, after) r = r ≡ (ended, after)
IsReadingAt (too_large, after) r = r ≡ (refused H2, after)
IsReadingAt (opened front, after) r = (head : Option Head) × IsHeadOf front head × (r ≡ reading_after head after)

-- what the text is, and the bytes that are not needed to say so
abbrev pub IsReading : List ℕ → Reading → List ℕ → Type 0
IsReading bytes reading rest = IsReadingAt (opening_of bytes) (reading, rest)

-- the text has a whole head which says that a body follows, and this is what follows it
abbrev pub AwaitsBody : List ℕ → List ℕ → Type 0
AwaitsBody bytes rest =
    (front : List ℕ) × (head : Head) × (len : ℕ) × (opening_of bytes ≡ (opened front, rest)) × IsHeadOf front (Some head) × (body_length head ≡ Ok len) × (0 < len)

-- a code with which a request is refused while it is read
abbrev pub IsReadingCode : Code → Type 0
IsReadingCode H1 = ⊤
IsReadingCode H2 = ⊤
IsReadingCode H3 = ⊤
IsReadingCode H4 = ⊤
IsReadingCode H8 = ⊤
IsReadingCode _ = ⊥

-- why a text with this head, or with none, is refused whatever follows
abbrev pub Refuses : Option Head → Code → Type 0
Refuses None why = why ≡ H1
Refuses (Some head) why = body_length head ≡ Err why
