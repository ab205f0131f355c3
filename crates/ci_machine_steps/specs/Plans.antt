-- What the plans of several events say: what an event does to the machine is a reply and a list of row changes.
use Rattle.std.specs.Prelude.{ℕ, ◌+◌, List, [], ◌∷◌, ◌++◌, if◌then◌else◌, ◌==◌, Option, Some, None, Result, Ok, Err, codes}
use Rattle.std.specs.Fmt.{decimal}
use Rattle.hex.specs.Hex.{encode_lower}
use Rattle.serde_json.specs.Written.{compact_text}
use Rattle.ci_machine.specs.declared.records.Project.{Project}
use Rattle.ci_machine.specs.declared.change.RowChange.{RowChange}
use Rattle.ci_machine.specs.declared.change.RowChange.TheVariants.{Put}
use Rattle.ci_machine.specs.declared.change.Record.{Record}
use Rattle.ci_machine.specs.declared.change.Counter.{Counter}
use Rattle.ci_machine.specs.declared.request.Seed.{Seed}
use Rattle.ci_machine.specs.declared.reply.Code.{Code}
use Rattle.ci_machine.specs.declared.reply.Code.TheVariants.{M1, M2, M14}
use Rattle.ci_machine.specs.declared.reply.Detail.{Detail}
use Rattle.ci_machine.specs.declared.reply.HttpStatus.TheVariants.{Fine, Created}
use Rattle.ci_machine.specs.declared.reply.Body.{Body}
use Rattle.ci_machine.specs.declared.reply.Body.TheVariants.{Json}
use Rattle.ci_machine.specs.declared.reply.Reply.{Reply}
use Rattle.ci_machine.specs.Prelude.{plain, refusal, fault_data}

abbrev pub Plan : Type 0
Plan = Reply × List RowChange

-- a refusal changes nothing
abbrev pub refused : Code → Plan
refused code = (refusal code, [])

-- what is to be made has a fault
abbrev pub faulted : Detail → Plan
faulted d = (record (refusal M14) { body = Some (Json (compact_text (fault_data d))) }, [])

abbrev pub created : List ℕ → Reply
created text = record (plain Created) { body = Some (Json text) }

abbrev pub fine : Body → Reply
fine body = record (plain Fine) { body = Some body }

-- the project with the token that was sent, if it is the one that is named
abbrev pub asked_project : Option Project → ℕ → Result Project Code
asked_project None named = Err M1
asked_project (Some project) named = if project.id == named then Ok project else Err M2

-- a letter, the number, a dash and the seed in hex
abbrev pub token_of : List ℕ → ℕ → Seed → List ℕ
token_of letter n seed = letter ++ (decimal n ++ (codes "-" ++ encode_lower seed.0))

-- a new record with this number, and the number that comes next
abbrev pub numbered : Record → Counter → ℕ → List RowChange
numbered new counter n = Put new ∷ Put (Record.Next counter (n + 1)) ∷ []
