-- A project is to be made.
use Rattle.std.specs.Prelude.{ℕ, not, List, if◌then◌else◌, nat_lt, None, codes}
use Rattle.serde_json.specs.Written.{compact_text}
use Rattle.ci_machine.specs.Prelude.{is_name, MAX_NUMBER, created_data}
use Rattle.ci_machine.specs.declared.change.Record.{Record}
use Rattle.ci_machine.specs.declared.change.Counter.{Counter}
use Rattle.ci_machine.specs.declared.request.Seed.{Seed}
use Rattle.ci_machine.specs.declared.reply.Code.TheVariants.{M15}
use Rattle.ci_machine.specs.declared.reply.FaultCode.TheVariants.{K}
use Rattle.ci_machine.specs.declared.reply.Detail.{Detail}
use Rattle.ci_machine_steps.specs.Plans.{Plan, refused, faulted, created, token_of, numbered}

abbrev pub made_project : ℕ → List ℕ → Seed → Plan
made_project id name seed =
    let token = token_of (codes "p") id seed in
    (created (compact_text (created_data id token)), numbered (Record.Project (record { id = id; name = name; token = token; file = None })) Counter.Project id)

-- a project is to be made, with this next number
abbrev pub add_project : ℕ → List ℕ → Seed → Plan
add_project next name seed =
    if not (is_name name) then faulted (Detail.Code (K 16))
    else if nat_lt MAX_NUMBER next then refused M15
    else made_project next name seed
