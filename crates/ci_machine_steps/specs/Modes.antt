-- The process modes of resource groups: a group of a project is to have one, or is asked for its own.
use Rattle.std.specs.Prelude.{ℕ, List, [], ◌∷◌, Option, Some, None, Result, Ok, Err}
use Rattle.serde_json.specs.Written.{compact_text}
use Rattle.ci_machine.specs.declared.records.Project.{Project}
use Rattle.ci_machine.specs.declared.records.GroupOrder.{GroupOrder}
use Rattle.ci_machine.specs.declared.change.RowChange.{RowChange}
use Rattle.ci_machine.specs.declared.change.RowChange.TheVariants.{Put, Remove}
use Rattle.ci_machine.specs.declared.change.Record.{Record}
use Rattle.ci_machine.specs.declared.change.Key.{Key}
use Rattle.ci_machine.specs.declared.request.NewMode.{NewMode}
use Rattle.ci_machine.specs.declared.reply.Body.TheVariants.{Json}
use Rattle.ci_machine.specs.declared.reply.Code.{Code}
use Rattle.ci_machine.specs.declared.reply.Reply.{Reply}
use Rattle.ci_machine.specs.Prelude.{mode_data}
use Rattle.ci_machine_steps.specs.Plans.{Plan, refused, fine}

-- the resource group is told with its process mode
abbrev pub mode_told : List ℕ → Option GroupOrder → Reply
mode_told group order = fine (Json (compact_text (mode_data group order)))

-- a group that has an order has a record of it, and one that is unordered has none
abbrev pub mode_change : ℕ → List ℕ → Option GroupOrder → RowChange
mode_change project group None = Remove (Key.Mode project group)
mode_change project group (Some order) = Put (Record.Mode (record { project = project; group = group; order = order }))

-- a resource group of the project that was asked for, if it was, is to have a process mode
abbrev pub set_mode : Result Project Code → NewMode → Plan
set_mode (Err code) new = refused code
set_mode (Ok project) new = (mode_told new.group new.order, mode_change project.id new.group new.order ∷ [])

-- a resource group of the project that was asked for, if it was, is told with the order that it has
abbrev pub show_mode : Result Project Code → Option GroupOrder → List ℕ → Plan
show_mode (Err code) order group = refused code
show_mode (Ok project) order group = (mode_told group order, [])
