-- The resource groups that live attempts hold. They stand in no record: they follow from the attempts and their jobs.
use Rattle.std.specs.Prelude.{ℕ, Bool, not, ◌==◌, List, [], ◌∷◌, map, filter, find, flat_map, All, Contains, Option, Some, None, option_map}
use Rattle.std.specs.List.{list_any}
use Rattle.std.specs.declared.cmp.Ordering.{Ordering}
use Rattle.std.specs.Ordering.{nat_cmp, ordering_then}
use Rattle.std.specs.Cmp.Lexicographic.{slice_cmp}
use Rattle.std.specs.List.Sorted.{IsStrictlySortedBy}
use Rattle.ci_machine.specs.declared.records.Holder.{Holder}
use Rattle.ci_machine.specs.declared.records.QueuedJob.{QueuedJob}
use Rattle.ci_machine.specs.declared.records.Attempt.{Attempt}
use Rattle.ci_machine.specs.declared.records.AttemptWithJob.{AttemptWithJob}
use Rattle.ci_machine.specs.declared.change.IndexChange.{IndexChange}
use Rattle.ci_machine.specs.declared.change.IndexChange.TheVariants.{Hold, Free}
use Rattle.ci_machine.specs.State.{State, put}
use Rattle.ci_machine.specs.Eligible.{holds}
use Rattle.ci_machine.specs.Lookups.{job_at, queued, live_attempts}

-- ---- in a state

-- the job with a number, and the project of its pipeline
abbrev pub queued_at : State → ℕ → Option QueuedJob
queued_at s job = option_map (queued s) (job_at s job)

-- an attempt with this number holds the group of its job, if that has one, in the job's project
abbrev pub group_held : ℕ → ℕ → Option (List ℕ) → List Holder
group_held attempt project None = []
group_held attempt project (Some group) = record { project = project; group = group; attempt = attempt } ∷ []

abbrev pub held_by : ℕ → Option QueuedJob → List Holder
held_by attempt None = []
held_by attempt (Some q) = group_held attempt q.project q.job.options.resource_group

-- what the attempt holds while it is live
abbrev pub held_of : State → Attempt → List Holder
held_of s a = held_by a.id (queued_at s a.job)

-- what the live attempts hold, by their numbers
abbrev pub holders : State → List Holder
holders s = flat_map (held_of s) (live_attempts s)

-- the attempt's job has this resource group, and is of this project
abbrev pub is_in_group : State → ℕ → List ℕ → Attempt → Bool
is_in_group s project group a = list_any (holds project group) (held_of s a)

-- ---- of attempts with their jobs

-- what these attempts hold, which are live
abbrev pub held_among : List AttemptWithJob → List Holder
held_among live = flat_map (λ a. held_by a.attempt.id (Some a.queued)) live

-- ---- as rows

-- they stand by the project and then by the bytes of the group
abbrev pub holder_cmp : Holder → Holder → Ordering
holder_cmp a b = ordering_then (nat_cmp a.project b.project) (slice_cmp nat_cmp a.group b.group)

-- The rows are those of the state: one for each live attempt whose job has a resource group, and no other. They stand in their order, so
-- no two are of the same group of a project.
pub record AreHolders (s : State) (rows : List Holder) : Type 0 where
  pub ascend : IsStrictlySortedBy holder_cmp rows
  pub held : All (Contains (holders s)) rows
  pub all : All (Contains rows) (holders s)

-- the row of a resource group of a project
abbrev pub holder_at : ℕ → List ℕ → List Holder → Option Holder
holder_at project group rows = find (holds project group) rows

-- those of the resource groups of a project
abbrev pub holders_in : ℕ → List Holder → List Holder
holders_in project rows = filter (λ h. h.project == project) rows

-- the rows where a group that none held is held
abbrev pub with_holder : Holder → List Holder → List Holder
with_holder h rows = put holder_cmp h rows

-- the rows where a group of a project is held no more
abbrev pub without_holder : ℕ → List ℕ → List Holder → List Holder
without_holder project group rows = filter (λ h. not (holds project group h)) rows

-- ---- what an event does to them

-- a job is granted, as the attempt with this number
abbrev pub holds_group : ℕ → QueuedJob → List IndexChange
holds_group attempt q = map Hold (group_held attempt q.project q.job.options.resource_group)

abbrev pub freed : Holder → IndexChange
freed h = Free h.project h.group
