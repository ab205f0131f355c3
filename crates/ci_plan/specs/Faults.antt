-- Why there is no pipeline, with the jobs that it is about.
use Rattle.std.specs.Prelude.{◌≡◌, ℕ, List, map, filter, flat_map}
use Rattle.ci_graph_layout.specs.Prelude.{Text, Need, IncludedJob, rank, pairs, needs_of, needs_many, is_unmet, names_later}
use Rattle.ci_graph_layout.specs.declared.fault.GraphCode.{GraphCode}
use Rattle.ci_graph_layout.specs.declared.fault.GraphCode.TheVariants.{G1, G2, G3, G4, G5}
use Rattle.ci_plan.specs.Circles.{IsCircle}
use Rattle.ci_plan.specs.Planned.{names, name_at}
use Rattle.ci_plan.specs.declared.records.NamedNeed.{NamedNeed}
use Rattle.ci_plan.specs.declared.records.Fault.{Fault}
use Rattle.ci_plan.specs.declared.records.Fault.TheVariants.{Unmet, Later, Circle, NoWork, ManyNeeds}

abbrev pub code_of : Fault → GraphCode
code_of (Unmet needs) = G1
code_of (Later needs) = G2
code_of (Circle jobs) = G3
code_of (NoWork jobs) = G4
code_of (ManyNeeds jobs) = G5

abbrev pub named_need : IncludedJob → Need → NamedNeed
named_need i n = record { job = i.job.name; need = n.job }

-- the needs that aren't optional and name no job of the pipeline
abbrev pub unmet_of : List IncludedJob → IncludedJob → List NamedNeed
unmet_of is i = map (named_need i) (filter (is_unmet is) (needs_of i))

abbrev pub unmet : List IncludedJob → List NamedNeed
unmet is = flat_map (unmet_of is) is

-- the needs that name a job of a later stage
abbrev pub later_of : List Text → List IncludedJob → IncludedJob → List NamedNeed
later_of stages is i = map (named_need i) (filter (names_later stages is (rank stages i.job.stage)) (needs_of i))

abbrev pub later : List Text → List IncludedJob → List NamedNeed
later stages is = flat_map (later_of stages is) is

-- the names of the jobs that give too many needs
abbrev pub many : List IncludedJob → List Text
many is = names (filter needs_many is)

-- the names of jobs that wait for one another in a circle
abbrev pub IsCircleOf : List Text → List IncludedJob → List Text → Type 0
IsCircleOf stages is jobs = (places : List ℕ) × IsCircle (pairs stages is) places × (jobs ≡ map (name_at is) places)

-- it has all the jobs that its code is about, or of circles one
abbrev pub IsAbout : List Text → List IncludedJob → Fault → Type 0
IsAbout stages is (Unmet needs) = needs ≡ unmet is
IsAbout stages is (Later needs) = needs ≡ later stages is
IsAbout stages is (Circle jobs) = IsCircleOf stages is jobs
IsAbout stages is (NoWork jobs) = jobs ≡ names is
IsAbout stages is (ManyNeeds jobs) = jobs ≡ many is
