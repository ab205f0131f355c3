-- The lines that the program prints, and the exit statuses that go with them.
use Rattle.std.specs.Prelude.{ℕ, List, ◌≡◌, ◌⊎◌, ◌++◌, None, Some, Option, codes, decimal}
use Rattle.std.specs.Io.KnownBytes.{Appends}
use Rattle.ci_store_sqlite.specs.declared.tables.OpenFault.TheVariants.{O1, O2, O3, Memory}
use Rattle.ci_machine.specs.declared.reply.Code.{Code}
use Rattle.ci_machine.specs.declared.reply.Code.TheVariants.{M17}
use Rattle.ci_machine.specs.declared.reply.Reply.{Reply}
use Rattle.ci_machine.specs.Prelude.{body_text}
use Rattle.ci_cli_words.specs.declared.line.Line.{Line}

-- the text of a line, without its end
abbrev pub said : Line → List ℕ
said Line.Fine = codes "ok"
said Line.Migrated = codes "migrated: 1 to 2"
said Line.Current = codes "version: 2"
said (Line.Listening port) = codes "listening on 127.0.0.1:" ++ decimal port
said Line.FileExists = codes "refused: file exists"
said Line.NoClock = codes "refused: clock"
said Line.NoSeed = codes "refused: seed"
said Line.NoMemory = codes "refused: M16"
said Line.NoPipeline = codes "refused: M3"
said (Line.NotOpened O1) = codes "store: O1"
said (Line.NotOpened O2) = codes "store: O2"
said (Line.NotOpened O3) = codes "store: O3"
said (Line.NotOpened Memory) = codes "refused: M16"
said Line.Closed = codes "store: M17"
said (Line.CannotListen port) = codes "cannot listen on 127.0.0.1:" ++ decimal port

abbrev pub line_text : Line → List ℕ
line_text l = said l ++ codes "\n"

-- 0 what was asked for was done; 1 it was refused; 3 the store failed, or nothing can be heard
abbrev pub line_status : Line → ℕ
line_status Line.Fine = 0
line_status Line.Migrated = 0
line_status Line.Current = 0
line_status (Line.Listening port) = 0
line_status Line.FileExists = 1
line_status Line.NoClock = 1
line_status Line.NoSeed = 1
line_status Line.NoMemory = 1
line_status Line.NoPipeline = 1
line_status (Line.NotOpened O1) = 3
line_status (Line.NotOpened O2) = 3
line_status (Line.NotOpened O3) = 3
line_status (Line.NotOpened Memory) = 1
line_status Line.Closed = 3
line_status (Line.CannotListen port) = 3

-- of a command that sends a request, by the code of its reply: 0 without one; 3 where the store failed, else 1
abbrev pub reply_status : Option Code → ℕ
reply_status None = 0
reply_status (Some M17) = 3
reply_status (Some other) = 1

-- what is told of a reply with this code and body: the body as a line, but the line of a closed server where the store failed
abbrev pub told_by : Option Code → List ℕ → List ℕ
told_by None body = body ++ codes "\n"
told_by (Some M17) body = line_text Line.Closed
told_by (Some other) body = body ++ codes "\n"

abbrev pub told : Reply → List ℕ
told reply = told_by reply.code (body_text reply)

-- The text was written and the run ends with its status, or, where it can't be written, with 3.
abbrev pub Told : Option (List ℕ) → Option (List ℕ) → List ℕ → ℕ → ℕ → Type 0
Told old new text status result = (Appends old new text × (result ≡ status)) ⊎ (result ≡ 3)
