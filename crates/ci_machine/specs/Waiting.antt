-- The jobs that wait, and how the resource groups of a state stand.
use Rattle.std.specs.Prelude.{ℕ, Bool, true, false, List, [], ◌∷◌, filter, flat_map, ◌==◌, Option, Some, None, find}
use Rattle.ci_board.specs.declared.facts.Status.{Status}
use Rattle.ci_machine.specs.declared.records.AttemptWithJob.{AttemptWithJob}
use Rattle.ci_machine.specs.declared.records.BoardRow.{BoardRow}
use Rattle.ci_machine.specs.declared.records.Claim.{Claim}
use Rattle.ci_machine.specs.declared.records.GroupMode.{GroupMode}
use Rattle.ci_machine.specs.declared.records.QueuedJob.{QueuedJob}
use Rattle.ci_machine.specs.declared.records.WaitingJob.{WaitingJob}
use Rattle.ci_machine.specs.State.{State}
use Rattle.ci_machine.specs.Statuses.{status_for}
use Rattle.ci_machine.specs.Lookups.{queued}
use Rattle.ci_machine.specs.Holders.{holders, held_among}
use Rattle.ci_machine.specs.Groups.{Groups, is_mode_of, claims_on}

-- ---- in a state

-- a job of this pipeline, which waits, has this resource group, if it is one
abbrev pub waits_for : ℕ → ℕ → Bool → Option (List ℕ) → List WaitingJob
waits_for project pipeline pending None = []
waits_for project pipeline pending (Some group) = record { project = project; group = group; pipeline = pipeline; pending = pending } ∷ []

-- what the job waits for by its status: one that is created waits as one that is pending does, and no other
abbrev pub waits_as : QueuedJob → Status → List WaitingJob
waits_as q Status.Created = waits_for q.project q.job.pipeline false q.job.options.resource_group
waits_as q Status.Pending = waits_for q.project q.job.pipeline true q.job.options.resource_group
waits_as q _ = []

-- the jobs with a resource group that are created or pending, by number
abbrev pub waiting : State → List BoardRow → List WaitingJob
waiting s board = flat_map (λ j. waits_as (queued s j) (status_for board j.id)) s.jobs

-- how the resource groups stand, where live attempts hold these and these jobs wait
abbrev pub groups_with : State → List WaitingJob → Groups
groups_with s waiting = record { holders = holders s; modes = s.modes; waiting = waiting }

abbrev pub groups_in : State → List BoardRow → Groups
groups_in s board = groups_with s (waiting s board)

-- the groups for which the jobs of a pipeline must wait
abbrev pub claims_in : State → List BoardRow → ℕ → List Claim
claims_in s board pipeline = claims_on (groups_in s board) pipeline

-- the mode of a resource group of a project, if it has one
abbrev pub mode_at : State → ℕ → List ℕ → Option GroupMode
mode_at s project group = find (is_mode_of project group) s.modes

-- the modes of the resource groups of a project
abbrev pub modes_in : ℕ → List GroupMode → List GroupMode
modes_in project modes = filter (λ m. m.project == project) modes

-- ---- of attempts with their jobs

-- how the resource groups stand, where these attempts are live
abbrev pub groups_among : List AttemptWithJob → List GroupMode → List WaitingJob → Groups
groups_among live modes waiting = record { holders = held_among live; modes = modes; waiting = waiting }
