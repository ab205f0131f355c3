-- The text of a plan, line by line and column by column.
use Rattle.std.specs.Prelude.{ℕ, ◌-◌, ◌^◌, List, [], ◌∷◌, ◌++◌, length, flat_map, Option, Some, None, Result, Ok, Err, codes, decimal}
use Rattle.std.specs.Fmt.{styled_text, styled_decimal, format_spec}
use Rattle.ci_machine_steps.specs.Prelude.{When, OnSuccess, OnFailure, Always, Manual}
use Rattle.ci_graph_layout.specs.Prelude.{Text}
use Rattle.ci_graph_layout.specs.declared.fault.GraphCode.{GraphCode}
use Rattle.ci_graph_layout.specs.declared.fault.GraphCode.TheVariants.{G1, G2, G3, G4, G5}
use Rattle.ci_explain.specs.Verdicts.{report_line}
use Rattle.ci_plan.specs.Faults.{code_of}
use Rattle.ci_plan.specs.declared.records.PlannedJob.{PlannedJob}
use Rattle.ci_plan.specs.declared.records.LeftOut.{LeftOut}
use Rattle.ci_plan.specs.declared.records.NamedNeed.{NamedNeed}
use Rattle.ci_plan.specs.declared.records.Fault.{Fault}
use Rattle.ci_plan.specs.declared.records.Fault.TheVariants.{Unmet, Later, Circle, NoWork, ManyNeeds}
use Rattle.ci_plan.specs.declared.records.Note.{Note}
use Rattle.ci_plan.specs.declared.records.Plan.{Plan}
use Rattle.ci_plan.specs.declared.verdict.Outcome.{Outcome}
use Rattle.ci_plan.specs.declared.verdict.Outcome.TheVariants.{Planned, Refused}

-- ---- columns, in std's words for the options of a format: spaces fill what is narrower, and what is wider stands whole

-- a number at the right of a column
abbrev pub right : ℕ → ℕ → List ℕ
right width n = styled_decimal (format_spec 32 3 0 width (2 ^ 64 - 1)) n

-- a text at the left of a column
abbrev pub left : ℕ → List ℕ → List ℕ
left width text = styled_text (format_spec 32 1 0 width (2 ^ 64 - 1)) text

-- ---- the jobs of a pipeline

abbrev pub when_text : When → List ℕ
when_text OnSuccess = codes "on_success"
when_text OnFailure = codes "on_failure"
when_text Always = codes "always"
when_text Manual = codes "manual"

-- four columns wide
abbrev pub rule_text : Option ℕ → List ℕ
rule_text (Some n) = right 4 n
rule_text None = codes "   -"

abbrev pub after_comma : Text → List ℕ
after_comma name = codes ", " ++ name

-- texts with a comma between each two; `-` where there are none
abbrev pub listed : List Text → List ℕ
listed [] = codes "-"
listed (x ∷ xs) = x ++ flat_map after_comma xs

unfoldable pub job_start : PlannedJob → List ℕ
job_start j = left 12 j.stage ++ codes " " ++ left 10 (when_text j.«when») ++ codes " "

unfoldable pub job_name : PlannedJob → List ℕ
job_name j = codes " " ++ left 24 j.name ++ codes " "

abbrev pub job_line : PlannedJob → List ℕ
job_line j = job_start j ++ rule_text j.rule ++ job_name j ++ listed j.waits_for ++ codes "\n"

abbrev pub count_line : ℕ → List ℕ
count_line n = codes "jobs: " ++ decimal n ++ codes "\n"

abbrev pub jobs_text : List PlannedJob → List ℕ
jobs_text js =
    codes "STAGE        WHEN       RULE JOB                      WAITS FOR\n"
    ++ flat_map job_line js
    ++ count_line (length js)

-- ---- why there is no pipeline

abbrev pub code_text : GraphCode → List ℕ
code_text G1 = codes "G1"
code_text G2 = codes "G2"
code_text G3 = codes "G3"
code_text G4 = codes "G4"
code_text G5 = codes "G5"

abbrev pub unmet_line : NamedNeed → List ℕ
unmet_line n = n.job ++ codes " needs " ++ n.need ++ codes ", which the pipeline doesn't have\n"

abbrev pub later_line : NamedNeed → List ℕ
later_line n = n.job ++ codes " needs " ++ n.need ++ codes ", which is of a later stage\n"

abbrev pub wait_line : Text → Text → List ℕ
wait_line one other = one ++ codes " waits for " ++ other ++ codes "\n"

-- one waits for the first of these, each of them for the next one, and the last one for this
abbrev pub turn_lines : Text → List Text → Text → List ℕ
turn_lines one [] first = wait_line one first
turn_lines one (next ∷ others) first = wait_line one next ++ turn_lines next others first

abbrev pub circle_lines : List Text → List ℕ
circle_lines [] = []
circle_lines (one ∷ others) = turn_lines one others one

abbrev pub idle_line : Text → List ℕ
idle_line job = job ++ codes " is of .pre or .post, and those alone make no pipeline\n"

abbrev pub many_line : Text → List ℕ
many_line job = job ++ codes " gives more than 50 needs\n"

abbrev pub fault_lines : Fault → List ℕ
fault_lines (Unmet needs) = flat_map unmet_line needs
fault_lines (Later needs) = flat_map later_line needs
fault_lines (Circle jobs) = circle_lines jobs
fault_lines (NoWork jobs) = flat_map idle_line jobs
fault_lines (ManyNeeds jobs) = flat_map many_line jobs

abbrev pub fault_text : Fault → List ℕ
fault_text fault = codes "refused: " ++ code_text (code_of fault) ++ codes "\n" ++ fault_lines fault

-- ---- what stands below both

abbrev pub why_left_out : Option ℕ → List ℕ
why_left_out (Some n) = codes ": its rule " ++ decimal n ++ codes " says never\n"
why_left_out None = codes ": none of its rules holds\n"

abbrev pub left_out_line : LeftOut → List ℕ
left_out_line o = codes "left out: " ++ o.name ++ why_left_out o.rule

abbrev pub told : Result (List PlannedJob) Fault → List ℕ
told (Ok jobs) = jobs_text jobs
told (Err fault) = fault_text fault

abbrev pub plan_text : Plan → List ℕ
plan_text p = told p.jobs ++ flat_map left_out_line p.left_out

-- a rule that compares a variable which nothing defines, and what to do
abbrev pub note_head : Note → List ℕ
note_head n = codes "note: rule " ++ decimal n.rule ++ codes " of " ++ n.job

abbrev pub note_body : Note → List ℕ
note_body n = codes " compares with " ++ n.variable ++ codes ", which nothing defines: set it as a variable of "

abbrev pub note_end : Note → List ℕ
note_end n = codes "the project or of each request, and give it here as --variable " ++ n.variable ++ codes "=VALUE\n"

unfoldable pub note_line : Note → List ℕ
note_line n = note_head n ++ note_body n ++ note_end n

abbrev pub told_text : Plan → List Note → List ℕ
told_text p notes = plan_text p ++ flat_map note_line notes

-- what is printed of what a word names
abbrev pub outcome_text : List ℕ → Outcome → List ℕ
outcome_text word (Planned plan notes) = told_text plan notes
outcome_text word (Refused verdict) = report_line word verdict
