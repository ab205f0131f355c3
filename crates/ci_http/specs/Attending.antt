-- What becomes of the server while one request is served.
use Rattle.std.specs.Prelude.{◌<◌, ℕ, List, length, Option, Some}
use Rattle.sqlite.specs.Store.{Ghosts}
use Rattle.ci_machine.specs.declared.reply.Reply.{Reply}
use Rattle.ci_machine.specs.declared.reply.Swept.{Swept}
use Rattle.ci_machine.specs.declared.request.Seed.{Seed}
use Rattle.ci_server.specs.Prelude.{ServerOver}
use Rattle.ci_http_messages.specs.Prelude.{reply_text}
use Rattle.ci_http.specs.Serving.{Serves}

-- The server serves the one request of these bytes, at this moment and with this seed, and is swept before that, so often at most; this is
-- the reply. The log is told of the sweeps.
abbrev pub ServesSwept : {S L : Type 0} → Ghosts S → (L → Swept → L → Type 0) → ℕ → ℕ × Seed → ServerOver S → ServerOver S → L → L → List ℕ → Reply → Type 0
ServesSwept g tells most stamp old new log last bytes reply =
    (rest : Option (List ℕ)) × Serves g tells most stamp.0 stamp.1 old new log last reply (Some bytes) rest

-- A request is served so and its reply lost, which is only where the reply takes more bytes than there was room for.
abbrev pub LosesReply : {S L : Type 0} → Ghosts S → (L → Swept → L → Type 0) → ℕ → ℕ → ℕ × Seed → ServerOver S → ServerOver S → L → L → List ℕ → Type 0
LosesReply g tells most room stamp old new log last bytes =
    (reply : Reply) × (rest : Option (List ℕ)) × Serves g tells most stamp.0 stamp.1 old new log last reply (Some bytes) rest × (room < length (reply_text reply))
