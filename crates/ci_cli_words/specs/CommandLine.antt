-- The command line that the program takes: its commands, and the arguments of each, as `clap` reads words by them.
use Rattle.std.specs.Prelude.{◌≡◌, ℕ, true, false, List, [], ◌∷◌, Some, codes}
use Rattle.ci_machine.specs.Prelude.{MAX_NUMBER}
use Rattle.clap.specs.Walk.{Rule, Text}
use Rattle.clap.specs.Simple.{App, Shape, app_of, new_rule, new_shape}
use Rattle.clap.specs.declared.builder.command.Command.{Command}
use Rattle.clap.specs.declared.builder.command.Command.TheViews.{out-Command as fields_of}
use Rattle.clap.specs.declared.builder.action.ArgAction.TheVariants.{Set, Append, SetTrue}
use Rattle.clap.specs.declared.builder.value_parser.ValueParser.TheVariants as parser
use Rattle.ci_cli_words.specs.declared.command_name.CommandName.{CommandName}

-- `--name VALUE`, once
abbrev pub option : Text → Rule
option name = record (new_rule name) { long = Some name; action = Some Set }

-- its value has a name of its own in help
abbrev pub named : Rule → Rule
named rule = record rule { value_names = 1 }

-- `--name VALUE`, as often as one likes
abbrev pub repeated : Rule → Rule
repeated rule = record rule { action = Some Append }

-- `--name N`, once, with a number from 1 to this one
abbrev pub number : Text → ℕ → Rule
number name most = record (named (option name)) { parser = Some (parser.Unsigned 1 most) }

-- `--name`
abbrev pub flag : Text → Rule
flag name = record (new_rule name) { long = Some name; action = Some SetTrue }

abbrev pub required : Rule → Rule
required rule = record rule { required = true }

-- the argument of a CI file
abbrev pub file : Rule
file = required (new_rule (codes "FILE"))

-- the option of the server's file
abbrev pub db : Rule
db = named (required (option (codes "db")))

abbrev pub plan_options : List Rule
plan_options = file ∷ required (option (codes "ref")) ∷ flag (codes "tag") ∷ option (codes "source") ∷ named (repeated (option (codes "variable"))) ∷ []

abbrev pub runner_options : List Rule
runner_options = db ∷ required (option (codes "name")) ∷ number (codes "project") MAX_NUMBER ∷ named (option (codes "tags")) ∷ flag (codes "untagged") ∷ []

abbrev pub pause_options : List Rule
pause_options = db ∷ required (number (codes "runner") MAX_NUMBER) ∷ flag (codes "resume") ∷ []

abbrev pub report_options : List Rule
report_options = db ∷ named (required (option (codes "kind"))) ∷ number (codes "pipeline") MAX_NUMBER ∷ flag (codes "json") ∷ []

abbrev pub serve_options : List Rule
serve_options = db ∷ required (number (codes "port") 65535) ∷ required (number (codes "requests") 4294967295) ∷ flag (codes "stop-on-fault") ∷ named (option (codes "log")) ∷ []

abbrev pub command : Text → List Rule → Shape
command name rules = record (new_shape name) { rules = rules }

abbrev pub check : Shape
check = command (codes "check") (file ∷ [])

abbrev pub explain : Shape
explain = command (codes "explain") (file ∷ [])

abbrev pub plan : Shape
plan = command (codes "plan") plan_options

abbrev pub init : Shape
init = command (codes "init") (db ∷ [])

abbrev pub migrate : Shape
migrate = command (codes "migrate") (db ∷ [])

abbrev pub project_add : Shape
project_add = command (codes "project-add") (db ∷ required (option (codes "name")) ∷ [])

abbrev pub runner_add : Shape
runner_add = command (codes "runner-add") runner_options

abbrev pub runner_pause : Shape
runner_pause = command (codes "runner-pause") pause_options

abbrev pub report : Shape
report = command (codes "report") report_options

abbrev pub prune : Shape
prune = command (codes "prune") (db ∷ named (required (option (codes "before"))) ∷ [])

abbrev pub serve : Shape
serve = command (codes "serve") serve_options

-- the shape of the command of this name
abbrev pub shape_of : CommandName → Shape
shape_of CommandName.Check = check
shape_of CommandName.Explain = explain
shape_of CommandName.Plan = plan
shape_of CommandName.Init = init
shape_of CommandName.Migrate = migrate
shape_of CommandName.ProjectAdd = project_add
shape_of CommandName.RunnerAdd = runner_add
shape_of CommandName.RunnerPause = runner_pause
shape_of CommandName.Report = report
shape_of CommandName.Prune = prune
shape_of CommandName.Serve = serve

-- the command has this shape, and no argument that its own commands would take over
abbrev pub IsCommand : Shape → Command → Type 0
IsCommand shape c = (app_of c ≡ record { top = shape; subs = [] }) × ((fields_of c).has_globals ≡ false)

-- the program before its commands: a command is wanted, and `--version` is answered
abbrev pub program : App
program = record { top = record (new_shape (codes "ciserver")) { has_version = true; subcommand_required = true }; subs = [] }

abbrev pub command_line : App
command_line = record {
  top = record program.top { is_leaf = false };
  subs = check ∷ explain ∷ plan ∷ init ∷ migrate ∷ project_add ∷ runner_add ∷ runner_pause ∷ report ∷ prune ∷ serve ∷ [];
}
