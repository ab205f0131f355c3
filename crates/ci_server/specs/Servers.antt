-- What the clauses of the crates above see of a server.
use Rattle.ci_store.specs.Prelude.{Held}
use Rattle.ci_memory.specs.declared.remembering.Remembering.{Remembering}
use Rattle.ci_server.specs.declared.fail_stop.FailStop.{FailStop}

-- its tables, with what is remembered of them, whether it is closed, and whether its opening migrated them
abbrev pub ServerOver : Type 0 → Type 0
ServerOver S = FailStop (Remembering (Held S))
