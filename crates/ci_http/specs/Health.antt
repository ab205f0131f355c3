-- What is answered to who asks whether the server is open.
use Rattle.std.specs.Prelude.{◌≡◌, ◌⊎◌, Bool, true, false, Some, codes}
use Rattle.ci_machine.specs.declared.reply.Body.TheVariants.{Json}
use Rattle.ci_machine.specs.declared.reply.Code.TheVariants.{M16, M17}
use Rattle.ci_machine.specs.declared.reply.HttpStatus.TheVariants.{Fine}
use Rattle.ci_machine.specs.declared.reply.Reply.{Reply}
use Rattle.ci_machine.specs.Prelude.{plain, refusal}

-- the reply of an open server
abbrev pub healthy : Reply
healthy = record (plain Fine) { body = Some (Json (codes "{\"status\":\"ok\"}")) }

-- the reply of a server, by whether it is closed; one that is open may lack the memory to say so
abbrev pub TellsHealth : Bool → Reply → Type 0
TellsHealth true reply = reply ≡ refusal M17
TellsHealth false reply = (reply ≡ healthy) ⊎ (reply ≡ refusal M16)
