-- What is kept beside the state follows from it: which groups are held, and which pipelines aren't finished.
use Rattle.std.specs.Prelude.{◌≡◌, Bool, List, filter, map, find, ◌==◌, Option, option_map}
use Rattle.std.specs.List.{list_any}
use Rattle.ci_machine.specs.declared.records.Pipeline.{Pipeline}
use Rattle.ci_machine.specs.declared.records.PipelineWithStatus.{PipelineWithStatus}
use Rattle.ci_machine.specs.declared.records.Job.{Job}
use Rattle.ci_machine.specs.declared.records.BoardRow.{BoardRow}
use Rattle.ci_machine.specs.declared.records.Unfinished.{Unfinished}
use Rattle.ci_machine.specs.State.{State}
use Rattle.ci_machine.specs.Statuses.{jobs_of, facts_of, rows_of}
use Rattle.ci_machine.specs.Bodies.{status_of_jobs}
use Rattle.ci_machine.specs.Kept.{Kept}
use Rattle.ci_machine.specs.Holders.{AreHolders}
use Rattle.ci_machine.specs.Redundant.{is_unfinished, is_newer_of, first_redundant}

-- a pipeline with the status that follows from its jobs
abbrev pub with_status : State → List BoardRow → Pipeline → PipelineWithStatus
with_status s board p = record { pipeline = p; status = status_of_jobs (jobs_of s p.id) (facts_of s p.id) (rows_of s board p.id) }

-- there is an attempt of the job, be it one that has ended or is set aside
abbrev pub was_tried : State → Job → Bool
was_tried s job = list_any (λ a. a.job == job.id) s.attempts

-- the redundant pipeline of least number, if there is one
abbrev pub redundant_in : State → List BoardRow → Option Pipeline
redundant_in s board = option_map (λ p. p.pipeline) (first_redundant (map (with_status s board) s.pipelines) (filter (was_tried s) s.jobs))

-- by these rows of its jobs' statuses the pipeline isn't finished
abbrev pub is_open_in : State → List BoardRow → Pipeline → Bool
is_open_in s board p = is_unfinished (with_status s board p).status

-- the pipelines that aren't finished, by number
abbrev pub unfinished_in : State → List BoardRow → List Unfinished
unfinished_in s board = map (λ p. record { pipeline = p.id }) (filter (is_open_in s board) s.pipelines)

-- the first newer pipeline of the same project, for the same branch or the same tag
abbrev pub newer_in : State → Pipeline → Option Pipeline
newer_in s p = find (is_newer_of p) s.pipelines

-- what is kept beside a state with its rows is the state's
pub record AreIndexes (k : Kept) : Type 0 where
  pub held : AreHolders k.state k.holders
  pub unfinished : k.unfinished ≡ unfinished_in k.state k.board
