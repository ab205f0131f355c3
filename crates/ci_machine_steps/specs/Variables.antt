-- The variables of a project: one is to have a value, or to go.
use Rattle.std.specs.Prelude.{ℕ, ◌+◌, not, List, [], ◌∷◌, length, filter, if◌then◌else◌, nat_lt, Option, Some, None, Result, Ok, Err}
use Rattle.std.specs.Str.{bytes_eq}
use Rattle.ci_machine.specs.Prelude.{is_variable_name, plain}
use Rattle.ci_graph_layout.specs.Prelude.{MAX_VARIABLES}
use Rattle.ci_machine.specs.declared.records.Project.{Project}
use Rattle.ci_machine.specs.declared.records.Variable.{Variable}
use Rattle.ci_machine.specs.declared.change.RowChange.TheVariants.{Put, Remove}
use Rattle.ci_machine.specs.declared.change.Record.{Record}
use Rattle.ci_machine.specs.declared.change.Key.{Key}
use Rattle.ci_machine.specs.declared.request.NewVariable.{NewVariable}
use Rattle.ci_machine.specs.declared.reply.Code.{Code}
use Rattle.ci_machine.specs.declared.reply.Code.TheVariants.{M3}
use Rattle.ci_machine.specs.declared.reply.FaultCode.TheVariants.{K}
use Rattle.ci_machine.specs.declared.reply.Detail.{Detail}
use Rattle.ci_machine.specs.declared.reply.HttpStatus.TheVariants.{Fine, NoContent}
use Rattle.ci_machine_steps.specs.Plans.{Plan, refused, faulted}

-- how many variables stand once there is one of this name
abbrev pub count_with : List ℕ → List Variable → ℕ
count_with name vs = length (filter (λ v. not (bytes_eq v.key name)) vs) + 1

abbrev pub variable_set : Project → NewVariable → Plan
variable_set project new = (plain Fine, Put (Record.Variable (record { project = project.id; key = new.key; value = new.value })) ∷ [])

-- a variable of the project that was asked for, if it was, is to have a value; the project has these
abbrev pub set_variable : Result Project Code → List Variable → NewVariable → Plan
set_variable (Err code) vs new = refused code
set_variable (Ok project) vs new =
    if nat_lt MAX_VARIABLES (count_with new.key vs) then faulted (Detail.Code (K 11))
    else if not (is_variable_name new.key) then faulted (Detail.Code (K 12))
    else variable_set project new

abbrev pub variable_gone : Variable → Plan
variable_gone v = (plain NoContent, Remove (Key.Variable v.project v.key) ∷ [])

-- the variable that was found, if there is one, is to go from the project that was asked for
abbrev pub delete_variable : Result Project Code → Option Variable → Plan
delete_variable (Err code) found = refused code
delete_variable (Ok project) None = refused M3
delete_variable (Ok project) (Some v) = variable_gone v
