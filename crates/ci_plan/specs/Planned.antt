-- What is told of each job that a pipeline has.
use Rattle.std.specs.Prelude.{ℕ, List, [], map, slice_index_or}
use Rattle.ci_graph_layout.specs.Prelude.{Text, IncludedJob, predecessors}
use Rattle.ci_plan.specs.declared.records.PlannedJob.{PlannedJob}

abbrev pub names : List IncludedJob → List Text
names is = map (λ i. i.job.name) is

-- the name of the job at a position
abbrev pub name_at : List IncludedJob → ℕ → Text
name_at is place = slice_index_or (names is) place []

-- a job of these: the rule that took it in, and the names of those that it waits for
abbrev pub planned_job : List Text → List IncludedJob → IncludedJob → PlannedJob
planned_job stages is i = record {
  name = i.job.name;
  stage = i.job.stage;
  «when» = i.«when»;
  rule = i.rule;
  waits_for = map (name_at is) (predecessors stages is i);
}

-- the jobs of the pipeline, in the order of the layout
abbrev pub planned_jobs : List Text → List IncludedJob → List PlannedJob
planned_jobs stages is = map (planned_job stages is) is
