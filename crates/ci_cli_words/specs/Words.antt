-- What the words behind a command ask for, by what clap finds in them.
use Rattle.std.specs.Prelude.{◌≡◌, ◌⊎◌, ◌==◌, ◌&&◌, ℕ, Bool, true, false, not, List, [], ◌∷◌, ◌++◌, ◌^◌, Option, Some, None, codes, map, length, slice_index, option_and_then, unwrap_or, nat_lt, if◌then◌else◌, MatchOption}
use Rattle.std.specs.Borrow.{Bor}
use Rattle.std.specs.List.{after_first, before_first, list_any, position_or_len}
use Rattle.std.specs.Str.{bytes_eq}
use Rattle.std.specs.Str.Parse.{digits_value, without_leading_plus}
use Rattle.clap.specs.ValueTests.{is_numeral}
use Rattle.clap.specs.Walk.{Row, Text, all_of, first_of, one_of}
use Rattle.clap.specs.Faults.{fault_of}
use Rattle.clap.specs.Kinds.{IsAmong}
use Rattle.clap.specs.Simple.{subcommand_of}
use Rattle.clap.specs.declared.error.kind.ErrorKind.{ErrorKind}
use Rattle.clap.specs.declared.error.kind.ErrorKind.TheVariants.{InvalidValue, OutOfMemory}
use Rattle.ci_machine.specs.Prelude.{is_name, is_variable_name}
use Rattle.ci_machine.specs.declared.records.RefKind.{RefKind}
use Rattle.ci_machine.specs.declared.records.RefKind.TheVariants.{Branch, Tag}
use Rattle.ci_machine.specs.declared.records.Source.{Source}
use Rattle.ci_machine.specs.declared.records.Source.TheVariants.{Push, Web, Schedule, Api, Trigger}
use Rattle.ci_machine.specs.declared.request.RunnerPause.{RunnerPause}
use Rattle.ci_cli_words.specs.CommandLine.{command_line}
use Rattle.ci_cli_words.specs.Dates.{IsDateAt}
use Rattle.ci_cli_words.specs.declared.task.AdminRequest.TheVariants.{AddProject, AddRunner, PauseRunner}
use Rattle.ci_cli_words.specs.declared.task.LogLevel.{LogLevel}
use Rattle.ci_cli_words.specs.declared.task.LogLevel.TheVariants.{Nothing, Events, Requests}
use Rattle.ci_cli_words.specs.declared.task.PlanOptions.{PlanOptions}
use Rattle.ci_cli_words.specs.declared.task.ReportForm.{ReportForm}
use Rattle.ci_cli_words.specs.declared.task.ReportForm.TheVariants.{Table, Json}
use Rattle.ci_cli_words.specs.declared.task.ReportKind.{ReportKind}
use Rattle.ci_cli_words.specs.declared.task.RunnerOptions.{RunnerOptions}
use Rattle.ci_cli_words.specs.declared.task.ServeOptions.{ServeOptions}
use Rattle.ci_cli_words.specs.declared.task.Task.{Task}
use Rattle.ci_cli_words.specs.declared.command_name.CommandName.{CommandName}

-- the result is what is asked for, and there is none where nothing is
abbrev pub Reads : {T : Type 0} → (T → Type 0) → Option T → Type 0
Reads {T} P result = MatchOption result ((x : T) → ¬ P x) P

-- ---- single values

-- a value that doesn't begin with `-` (45)
abbrev pub undashed : Option Text → Option Text
undashed None = None
undashed (Some text) = if slice_index text 0 == 45 then None else Some text

abbrev pub value_of : Text → List Row → Option Text
value_of option rows = undashed (first_of option rows)

abbrev pub HasWord : Text → List Row → Bor Text → Type 0
HasWord argument rows value = first_of argument rows ≡ Some value.now

abbrev pub HasValue : Text → List Row → Bor Text → Type 0
HasValue option rows value = value_of option rows ≡ Some value.now

-- the CI file of `check`, `explain` and `plan`, and the server's file of the others
abbrev pub HasPath : List Row → Bor Text → Type 0
HasPath = HasWord (codes "FILE")

abbrev pub HasFile : List Row → Bor Text → Type 0
HasFile = HasValue (codes "db")

-- the number of so many bits that decimal digits write
abbrev pub numeral : ℕ → Text → Option ℕ
numeral bits digits = if is_numeral digits && nat_lt (digits_value 10 digits) (2 ^ bits) then Some (digits_value 10 digits) else None

abbrev pub number_of : ℕ → Text → List Row → Option ℕ
number_of bits option rows = option_and_then (λ text. numeral bits (without_leading_plus text)) (one_of option rows)

abbrev pub is_true : Option Text → Bool
is_true None = false
is_true (Some text) = bytes_eq text (codes "true")

-- the flag is there
abbrev pub is_set : Text → List Row → Bool
is_set option rows = is_true (one_of option rows)

-- ---- the options of each command

abbrev pub log_named : Text → Option LogLevel
log_named text =
    if bytes_eq text (codes "events") then Some Events
    else (if bytes_eq text (codes "requests") then Some Requests else None)

-- what is logged; nothing where nothing is said
abbrev pub logged : Option Text → Option LogLevel
logged None = Some Nothing
logged (Some text) = log_named text

abbrev pub log_of : List Row → Option LogLevel
log_of rows = logged (first_of (codes "log") rows)

-- events are logged, by themselves or with requests
abbrev pub has_events : LogLevel → Bool
has_events Nothing = false
has_events Events = true
has_events Requests = true

abbrev pub ServesBy : List Row → ServeOptions → Type 0
ServesBy rows o = HasFile rows o.file × (number_of 16 (codes "port") rows ≡ Some o.port) × (number_of 32 (codes "requests") rows ≡ Some o.requests)
    × (o.stops_on_fault ≡ is_set (codes "stop-on-fault") rows) × (log_of rows ≡ Some o.log)

-- the tags, if they were given
abbrev pub TaggedBy : List Row → Option (Bor Text) → Type 0
TaggedBy rows tags = MatchOption tags (first_of (codes "tags") rows ≡ None) (HasValue (codes "tags") rows)

abbrev pub RunsBy : List Row → RunnerOptions → Type 0
RunsBy rows o = HasValue (codes "name") rows o.name × TaggedBy rows o.tags × (o.project ≡ number_of 64 (codes "project") rows) × (o.untagged ≡ is_set (codes "untagged") rows)

-- without `--resume` it is paused
abbrev pub PausesBy : List Row → RunnerPause → Type 0
PausesBy rows o = (number_of 64 (codes "runner") rows ≡ Some o.runner) × (o.paused ≡ not (is_set (codes "resume") rows))

-- the kind of a report, by its name and the pipeline's number, which no other report has
abbrev pub reported : Text → Option ℕ → Option ReportKind
reported kind (Some pipeline) = if bytes_eq kind (codes "pipeline") then Some (ReportKind.Pipeline pipeline) else None
reported kind None = if bytes_eq kind (codes "queue") then Some ReportKind.Queue else (if bytes_eq kind (codes "runners") then Some ReportKind.Runners else None)

abbrev pub report_of : List Row → Option ReportKind
report_of rows = option_and_then (λ kind. reported kind (number_of 64 (codes "pipeline") rows)) (first_of (codes "kind") rows)

abbrev pub report_form_of : List Row → ReportForm
report_form_of rows = if is_set (codes "json") rows then Json else Table

-- ---- a plan

abbrev pub source_named : Text → Option Source
source_named text =
    if bytes_eq text (codes "push") then Some Push
    else (if bytes_eq text (codes "web") then Some Web
    else (if bytes_eq text (codes "schedule") then Some Schedule
    else (if bytes_eq text (codes "api") then Some Api
    else (if bytes_eq text (codes "trigger") then Some Trigger else None))))

-- what asks for the pipeline; `api` where nothing is said
abbrev pub source_of : List Row → Option Source
source_of rows = source_named (unwrap_or (first_of (codes "source") rows) (codes "api"))

abbrev pub ref_kind_of : List Row → RefKind
ref_kind_of rows = if is_set (codes "tag") rows then Tag else Branch

abbrev pub Pair : Type 0
Pair = Text × Text

-- a variable's name and value, which the first `=` (61) parts
abbrev pub parted : Text → Pair
parted text = (before_first (λ b. b == 61) text, after_first (λ b. b == 61) text)

abbrev pub is_among : List Pair → Text → Bool
is_among pairs name = list_any (λ pair. bytes_eq pair.0 name) pairs

-- there is a `=`, and before it the name of a variable that those before it don't have
abbrev pub is_variable : List Pair → Text → Bool
is_variable before text =
    nat_lt (position_or_len (λ b. b == 61) text) (length text) && (is_variable_name (parted text).0 && not (is_among before (parted text).0))

-- the variables, behind those before them
abbrev pub variables_after : List Pair → List Text → Option (List Pair)
variables_after before [] = Some before
variables_after before (text ∷ rest) = if is_variable before text then variables_after (before ++ parted text ∷ []) rest else None

abbrev pub variables_of : List Row → Option (List Pair)
variables_of rows = variables_after [] (unwrap_or (all_of (codes "variable") rows) [])

-- pairs of references, as the texts behind them
abbrev pub pairs : List (Bor Text × Bor Text) → List Pair
pairs = map (λ pair. (pair.0.now, pair.1.now))

-- the branch or the tag, a name
abbrev pub RefersTo : List Row → Bor Text → Type 0
RefersTo rows git_ref = HasValue (codes "ref") rows git_ref × (is_name git_ref.now ≡ true)

abbrev pub PlansBy : List Row → PlanOptions → Type 0
PlansBy rows o = HasPath rows o.file
    × RefersTo rows o.git_ref
    × (o.kind ≡ ref_kind_of rows)
    × (source_of rows ≡ Some o.source)
    × (variables_of rows ≡ Some (pairs o.variables.items))

-- ---- the commands

abbrev pub command_named : Text → Option CommandName
command_named text =
    if bytes_eq text (codes "check") then Some CommandName.Check
    else (if bytes_eq text (codes "explain") then Some CommandName.Explain
    else (if bytes_eq text (codes "plan") then Some CommandName.Plan
    else (if bytes_eq text (codes "init") then Some CommandName.Init
    else (if bytes_eq text (codes "migrate") then Some CommandName.Migrate
    else (if bytes_eq text (codes "project-add") then Some CommandName.ProjectAdd
    else (if bytes_eq text (codes "runner-add") then Some CommandName.RunnerAdd
    else (if bytes_eq text (codes "runner-pause") then Some CommandName.RunnerPause
    else (if bytes_eq text (codes "report") then Some CommandName.Report
    else (if bytes_eq text (codes "prune") then Some CommandName.Prune
    else (if bytes_eq text (codes "serve") then Some CommandName.Serve else None))))))))))

-- what the command asks for, by the matches of its arguments
abbrev pub Asks : CommandName → List Row → Task → Type 0
Asks CommandName.Check rows t = (file : Bor Text) × (t ≡ Task.Check file) × HasPath rows file
Asks CommandName.Explain rows t = (file : Bor Text) × (t ≡ Task.Explain file) × HasPath rows file
Asks CommandName.Plan rows t = (options : PlanOptions) × (t ≡ Task.Plan options) × PlansBy rows options
Asks CommandName.Init rows t = (file : Bor Text) × (t ≡ Task.Init file) × HasFile rows file
Asks CommandName.Migrate rows t = (file : Bor Text) × (t ≡ Task.Migrate file) × HasFile rows file
Asks CommandName.ProjectAdd rows t =
    (file : Bor Text) × (name : Bor Text) × (t ≡ Task.Send file (AddProject name)) × HasFile rows file × HasValue (codes "name") rows name
Asks CommandName.RunnerAdd rows t =
    (file : Bor Text) × (options : RunnerOptions) × (t ≡ Task.Send file (AddRunner options)) × HasFile rows file × RunsBy rows options
Asks CommandName.RunnerPause rows t =
    (file : Bor Text) × (pause : RunnerPause) × (t ≡ Task.Send file (PauseRunner pause)) × HasFile rows file × PausesBy rows pause
Asks CommandName.Report rows t =
    (file : Bor Text) × (kind : ReportKind) × (t ≡ Task.Report file kind (report_form_of rows)) × HasFile rows file × (report_of rows ≡ Some kind)
Asks CommandName.Prune rows t =
    (file : Bor Text) × (day : Bor Text) × (before : ℕ) × (t ≡ Task.Prune file before) × HasFile rows file × HasWord (codes "before") rows day × IsDateAt day.now before
Asks CommandName.Serve rows t = (options : ServeOptions) × (t ≡ Task.Serve options) × ServesBy rows options

abbrev pub AsksBy : Option CommandName → List Row → Task → Type 0
AsksBy None rows t = ⊥
AsksBy (Some command) rows t = Asks command rows t

-- what a subcommand that was found asks for
abbrev pub AsksIn : Option (Text × List Row) → Task → Type 0
AsksIn None t = ⊥
AsksIn (Some found) t = AsksBy (command_named found.0) found.1 t

-- ---- the words of a command line, of which the first is the program's name

-- clap finds no fault in the words, and what it finds asks for the task
abbrev pub AsksOn : List Text → Task → Type 0
AsksOn words t = (fault_of command_line words ≡ []) × AsksIn (subcommand_of command_line words) t

-- The kinds of error that a command line is refused with: that memory was refused; what clap says of the words, if anything; or that a value
-- is invalid, where clap takes the words and they ask for nothing.
abbrev pub IsRefused : List Text → ErrorKind → Type 0
IsRefused words kind =
    (kind ≡ OutOfMemory) ⊎ IsAmong kind (fault_of command_line words)
    ⊎ ((kind ≡ InvalidValue) × (fault_of command_line words ≡ []) × ((t : Task) → ¬ AsksOn words t))
