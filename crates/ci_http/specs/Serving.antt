-- What becomes of one request: the reply, and the server before and after it, which is swept first, and the log that is told of that.
use Rattle.std.specs.Prelude.{◌≡◌, ◌⊎◌, ℕ, List, ◌++◌, Option, Result, Ok, Err}
use Rattle.std.specs.Io.KnownBytes.{Appends}
use Rattle.sqlite.specs.Store.{Ghosts}
use Rattle.ci_machine.specs.declared.reply.Answer.{Answer}
use Rattle.ci_machine.specs.declared.reply.Code.TheVariants.{M16}
use Rattle.ci_machine.specs.declared.reply.Reply.{Reply}
use Rattle.ci_machine.specs.declared.reply.Swept.{Swept}
use Rattle.ci_machine.specs.declared.request.Event.{Event}
use Rattle.ci_machine.specs.declared.request.Seed.{Seed}
use Rattle.ci_machine.specs.Prelude.{refusal}
use Rattle.ci_server.specs.Prelude.{ServerOver, Handles}
use Rattle.ci_http_messages.specs.declared.route.Demand.{Demand}
use Rattle.ci_http_messages.specs.Prelude.{Message, Reading, ended, refused, request, IsReading, AwaitsBody, request_in, AsksMemory, Tells}
use Rattle.ci_http.specs.Health.{TellsHealth}
use Rattle.ci_http.specs.Sweeping.{SweepsUpTo}

-- memory is asked for while such bytes are read: their head is whole and says that a body follows, which is what is left; or they
-- begin with a request, and its meaning takes memory
abbrev pub ReadsByMemory : List ℕ → List ℕ → Type 0
ReadsByMemory bytes rest = AwaitsBody bytes rest ⊎ ((m : Message) × IsReading bytes (request m) rest × AsksMemory m)

module _ {S L : Type 0} (g : Ghosts S) (tells : L → Swept → L → Type 0) (most moment : ℕ) (seed : Seed) (old new : ServerOver S) (log last : L) (reply : Reply) where
  -- The server is swept, so often at most, and then a request is handled once, and the reply is the server's; where there is none, nothing is
  -- handled, and the reply is the one that refuses it. To who asks whether the server is open it is told, and nothing changes: it isn't swept.
  -- The log is told of the sweeps alone.
  abbrev pub AnswersAsked : Result Demand Reply → Type 0
  AnswersAsked (Ok (Demand.Request asked)) =
      (mid : ServerOver S) × SweepsUpTo g tells moment most old mid log last × Handles g mid (Event.Request asked, moment, seed) new (Answer.Reply reply)
  AnswersAsked (Ok Demand.Health) = (new ≡ old) × (last ≡ log) × TellsHealth old.closed reply
  AnswersAsked (Err why) = SweepsUpTo g tells moment most old new log last × (reply ≡ why)

  -- the reply is that to what was read
  abbrev pub Answers : Reading → Type 0
  Answers ended = ⊥
  Answers (refused why) = SweepsUpTo g tells moment most old new log last × (reply ≡ refusal why)
  Answers (request m) = AnswersAsked (request_in m)

  -- the server was swept, and memory was refused before anything was handled
  abbrev pub LacksMemory : Type 0
  LacksMemory = SweepsUpTo g tells moment most old new log last × (reply ≡ refusal M16)

  -- the reply is that to some reading, which is the one of the bytes where the reader tells them: one step at most; or memory was
  -- refused, and then the bytes, where the reader tells them, are of those that ask for it
  abbrev pub Serves : Option (List ℕ) → Option (List ℕ) → Type 0
  Serves had left =
      (LacksMemory × Tells had left ReadsByMemory)
      ⊎ ((reading : Reading) × Answers reading × Tells had left (λ bytes rest. IsReading bytes reading rest))

-- a beginning of the text was written, and nothing else
abbrev pub WritesFront : Option (List ℕ) → Option (List ℕ) → List ℕ → Type 0
WritesFront old new text = (front : List ℕ) × (back : List ℕ) × (text ≡ front ++ back) × Appends old new front
