-- The status of a pipeline, by the parts, facts and statuses of its jobs.
use Rattle.std.specs.Prelude.{ℕ, zero, suc, Bool, true, false, ◌&&◌, ◌||◌, not, List, length, if◌then◌else◌, Option, Some, None}
use Rattle.ci_values.specs.declared.attempts.AttemptState.{AttemptState}
use Rattle.ci_graph.specs.JobGraph.{part_of}
use Rattle.ci_graph.specs.declared.part.Part.{Part}
use Rattle.ci_board.specs.declared.facts.Status.{Status}
use Rattle.ci_board.specs.declared.facts.Facts.{Facts}
use Rattle.ci_board.specs.declared.pipeline.Question.{Question}
use Rattle.ci_board.specs.Effects.{is_status, is_allowed}
use Rattle.ci_board.specs.Rows.{facts_at}

-- some of the first n jobs passes
abbrev pub some_job : ℕ → (ℕ → Bool) → Bool
some_job zero test = false
some_job (suc n) test = test n || some_job n test

abbrev pub has_status : (ℕ → Status) → Status → ℕ → Bool
has_status a s j = is_status s (a j)

-- j has the status, and isn't allowed to
abbrev pub has_strict : List Part → List Facts → (ℕ → Status) → Status → ℕ → Bool
has_strict parts facts a s j = is_status s (a j) && not (is_allowed (part_of parts j) (facts_at facts j) (a j))

-- the job was tried, be it in attempts that are set aside
abbrev pub has_attempt : Option AttemptState → Bool
has_attempt None = false
has_attempt (Some last) = true

-- the first case that holds
abbrev pub pipeline_status : List Part → List Facts → (ℕ → Status) → Status
pipeline_status parts facts a =
    if some_job (length parts) (has_status a Status.Running) then Status.Running
    else if some_job (length parts) (has_status a Status.Pending)
    then (if some_job (length parts) (λ j. has_attempt (facts_at facts j).last) then Status.Running else Status.Pending)
    else if some_job (length parts) (has_strict parts facts a Status.Manual) then Status.Manual
    else if some_job (length parts) (has_strict parts facts a Status.Failed) then Status.Failed
    else if some_job (length parts) (has_strict parts facts a Status.Canceled) then Status.Canceled
    else if some_job (length parts) (λ j. not (is_status Status.Skipped (a j) || is_status Status.Manual (a j))) then Status.Success
    else Status.Skipped

-- what the code asks of each job
abbrev pub answers_yes : Question → Part → Facts → Status → Bool
answers_yes (Question.Has s) part facts t = is_status s t
answers_yes (Question.HasStrictly s) part facts t = is_status s t && not (is_allowed part facts t)
answers_yes Question.HasAttempt part facts t = has_attempt facts.last
answers_yes Question.IsDone part facts t = not (is_status Status.Skipped t || is_status Status.Manual t)
