-- What is said of a file before a pipeline is made of it.
use Rattle.std.specs.Prelude.{◌≡◌, ℕ, List, [], Option, Result, Ok, Err, IfSome, ◌⊎◌, ⊤}
use Rattle.std.specs.IoError.{error_kind}
use Rattle.std.specs.Str.{IsUtf8}
use Rattle.std.specs.declared.io.Error.{Error}
use Rattle.ci_config.specs.Prelude.{Value}
use Rattle.ci_yaml.specs.Prelude.{HasTree}
use Rattle.ci_yaml.specs.declared.fault.YamlFault.{YamlFault}
use Rattle.ci_graph_layout.specs.Prelude.{X8, Text, Config, ConfigFault, ConfigLacksPatterns, Given, IncludedJob, decided, lineup, pairs, Plans}
use Rattle.ci_config.specs.declared.fault.ConfigCode.TheVariants.{K13}
use Rattle.ci_graph_layout.specs.Fault as layout
use Rattle.ci_graph_layout.specs.declared.fault.PlanFault.{PlanFault}
use Rattle.ci_machine_steps.specs.Prelude.{NewPipeline, IsRead, given_by}
use Rattle.ci_explain.specs.Verdicts.{Fits, FitsText, TellsUnread, status as verdict_status}
use Rattle.ci_explain.specs.declared.check.verdict.Verdict.{Verdict}
use Rattle.ci_plan.specs.Rules.{left_out}
use Rattle.ci_plan.specs.Planned.{planned_jobs}
use Rattle.ci_plan.specs.Faults.{code_of, IsAbout}
use Rattle.ci_plan.specs.Notes.{notes_of}
use Rattle.ci_plan.specs.declared.records.Note.{Note}
use Rattle.ci_plan.specs.declared.records.Plan.{Plan}
use Rattle.ci_plan.specs.declared.records.PlannedJob.{PlannedJob}
use Rattle.ci_plan.specs.declared.records.Fault.{Fault}
use Rattle.ci_plan.specs.declared.verdict.Outcome.{Outcome}
use Rattle.ci_plan.specs.declared.verdict.Outcome.TheVariants.{Planned, Refused}

-- the layout of the file: the jobs that are included, and the pairs of them
abbrev pub laid_out : Given → Config → layout.Plan
laid_out g c = record { jobs = lineup g c; pairs = pairs c.stages (lineup g c) }

-- The file lays out a pipeline, and these are its jobs; or it has this fault, and these are the jobs that the fault is about.
abbrev pub TellsJobs : Given → Config → Result (List PlannedJob) Fault → Type 0
TellsJobs g c (Ok jobs) = Plans g c (Ok (laid_out g c)) × (jobs ≡ planned_jobs c.stages (lineup g c))
TellsJobs g c (Err fault) = Plans g c (Err (code_of fault)) × IsAbout c.stages (lineup g c) fault

-- the same of each file that includes these jobs; or why that isn't known: memory was refused
abbrev pub GivesJobs : List Text → List IncludedJob → Result (Result (List PlannedJob) Fault) PlanFault → Type 0
GivesJobs stages is (Ok told) = (g : Given) (c : Config) → stages ≡ c.stages → is ≡ lineup g c → TellsJobs g c told
GivesJobs stages is (Err PlanFault.Memory) = ⊤
GivesJobs stages is (Err other) = ⊥

-- this is what a pipeline would be that brings these variables
pub record Tells (g : Given) (c : Config) (plan : Plan) : Type 0 where
  pub jobs : TellsJobs g c plan.jobs
  pub left_out : plan.left_out ≡ left_out (decided g c)

-- why nothing is told of a file that can be read: memory was refused, or a pattern
abbrev pub Gives : Given → Config → Result Plan PlanFault → Type 0
Gives g c (Ok plan) = Tells g c plan
Gives g c (Err (PlanFault.Fault code)) = ⊥
Gives g c (Err PlanFault.Pattern) = ConfigLacksPatterns c → ⊥
Gives g c (Err PlanFault.Memory) = ⊤

-- the same as the verdict of a check
abbrev pub refusal : PlanFault → Verdict
refusal PlanFault.Memory = Verdict.Refused YamlFault.Memory
refusal PlanFault.Pattern = Verdict.Misconfigured (ConfigFault.Fault (K13 X8))
refusal (PlanFault.Fault code) = Verdict.Refused YamlFault.Memory

abbrev pub IsRefusal : Verdict → Type 0
IsRefusal (Verdict.Configures jobs) = ⊥
IsRefusal other = ⊤

-- these are the notes of a text that configures this, by the tree that it has
abbrev pub AreNotes : List ℕ → Given → Config → List Note → Type 0
AreNotes text g c notes = (tree : Value) × HasTree text tree × (notes ≡ notes_of g c tree)

-- what is said of a text where these variables are brought
abbrev pub SaysText : List ℕ → Given → Outcome → Type 0
SaysText text g (Planned plan notes) = (c : Config) × IsRead text (Ok c) × Tells g c plan × AreNotes text g c notes
SaysText text g (Refused verdict) = FitsText text verdict × IsRefusal verdict

-- What is said of the bytes of a file where a pipeline is asked for, of a project without variables: what it would be and the notes, by what the
-- file says; or the verdict of a check, that it is refused.
abbrev pub Says : List ℕ → NewPipeline → Outcome → Type 0
Says bytes asked (Planned plan notes) = (c : Config) × IsUtf8 bytes × IsRead bytes (Ok c) × Tells (given_by asked []) c plan × AreNotes bytes (given_by asked []) c notes
Says bytes asked (Refused verdict) = Fits bytes verdict × IsRefusal verdict

-- what is said of a file that was opened fits all its bytes, where its reader tells them; of another, why it wasn't opened
abbrev pub IsSaidOf : {R : Type 0} → (R → Option (List ℕ)) → Result R Error → NewPipeline → Outcome → Type 0
IsSaidOf remaining (Ok reader) asked outcome = IfSome (remaining reader) (λ bytes. Says bytes asked outcome)
IsSaidOf remaining (Err fault) asked (Planned plan notes) = ⊥
IsSaidOf remaining (Err fault) asked (Refused verdict) = TellsUnread (error_kind fault) verdict

-- it is printed as it is, or of a plan that memory was refused
abbrev pub IsPrintedOf : Outcome → Outcome → Type 0
IsPrintedOf (Refused verdict) printed = printed ≡ Refused verdict
IsPrintedOf (Planned plan notes) printed = (printed ≡ Planned plan notes) ⊎ (printed ≡ Refused (Verdict.Refused YamlFault.Memory))

-- the exit status of a run that tells it: 0 a pipeline, 1 a fault, and of a refused file that of a check
abbrev pub jobs_status : Result (List PlannedJob) Fault → ℕ
jobs_status (Ok jobs) = 0
jobs_status (Err fault) = 1

abbrev pub status : Outcome → ℕ
status (Planned plan notes) = jobs_status plan.jobs
status (Refused verdict) = verdict_status verdict
