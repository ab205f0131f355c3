-- A runner is to be made, or to be paused.
use Rattle.std.specs.Prelude.{ℕ, Bool, true, false, ◌&&◌, not, [], ◌∷◌, length, if◌then◌else◌, nat_lt, Option, Some, None, codes}
use Rattle.std.specs.List.{list_all}
use Rattle.serde_json.specs.Written.{compact_text}
use Rattle.ci_machine.specs.Prelude.{is_name, MAX_NUMBER, created_data, paused_data}
use Rattle.ci_graph_layout.specs.Prelude.{MAX_TAGS}
use Rattle.ci_machine.specs.declared.records.Project.{Project}
use Rattle.ci_machine.specs.declared.records.Runner.{Runner}
use Rattle.ci_machine.specs.declared.change.RowChange.TheVariants.{Put}
use Rattle.ci_machine.specs.declared.change.Record.{Record}
use Rattle.ci_machine.specs.declared.change.Counter.{Counter}
use Rattle.ci_machine.specs.declared.request.NewRunner.{NewRunner}
use Rattle.ci_machine.specs.declared.request.Seed.{Seed}
use Rattle.ci_machine.specs.declared.reply.Code.TheVariants.{M2, M3, M15}
use Rattle.ci_machine.specs.declared.reply.FaultCode.TheVariants.{K}
use Rattle.ci_machine.specs.declared.reply.Detail.{Detail}
use Rattle.ci_machine.specs.declared.reply.Body.TheVariants.{Json}
use Rattle.ci_machine_steps.specs.Plans.{Plan, refused, faulted, created, fine, token_of, numbered}

-- ---- it is to be made

-- with this number; it isn't paused
abbrev pub made_runner : ℕ → NewRunner → Seed → Plan
made_runner id new seed =
    let token = token_of (codes "r") id seed in (
      created (compact_text (created_data id token)),
      numbered (Record.Runner (record { id = id; name = new.name; token = token; project = new.project; tags = new.tags; untagged = new.untagged; paused = false })) Counter.Runner id,
    )

-- its own name and each of its tags is a name
abbrev pub are_names : NewRunner → Bool
are_names new = is_name new.name && list_all is_name new.tags

-- it is to be of a project, and that isn't there
abbrev pub lacks_project : Option ℕ → Option Project → Bool
lacks_project None found = false
lacks_project (Some named) None = true
lacks_project (Some named) (Some project) = false

-- a runner is to be made, with this next number: the project that it is to be of, if it is to be of one and that is there
abbrev pub add_runner : ℕ → Option Project → NewRunner → Seed → Plan
add_runner next project new seed =
    if nat_lt MAX_TAGS (length new.tags) then faulted (Detail.Code (K 11))
    else if not (are_names new) then faulted (Detail.Code (K 16))
    else if lacks_project new.project project then refused M2
    else if nat_lt MAX_NUMBER next then refused M15
    else made_runner next new seed

-- ---- it is to be paused, or to go on

abbrev pub runner_paused : Runner → Bool → Plan
runner_paused r paused = (fine (Json (compact_text (paused_data r.id paused))), Put (Record.Runner (record r { paused = paused })) ∷ [])

-- the runner with the number that was asked for, if there is one
abbrev pub pause_runner : Option Runner → Bool → Plan
pause_runner None paused = refused M3
pause_runner (Some r) paused = runner_paused r paused
