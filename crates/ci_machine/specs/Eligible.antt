-- Which waiting job a runner is given.
use Rattle.std.specs.Prelude.{ℕ, Bool, true, ◌&&◌, not, List, [], ◌∷◌, find, ◌==◌, Option, Some, None}
use Rattle.std.specs.List.{list_any, list_all}
use Rattle.std.specs.Str.{bytes_eq}
use Rattle.ci_machine.specs.declared.records.Runner.{Runner}
use Rattle.ci_machine.specs.declared.records.Holder.{Holder}
use Rattle.ci_machine.specs.declared.records.Claim.{Claim}
use Rattle.ci_machine.specs.declared.records.QueuedJob.{QueuedJob}
use Rattle.ci_machine.specs.Groups.{Groups, claims_on}

-- a runner of the instance runs the jobs of every project, another those of its own
abbrev pub is_open_to : Option ℕ → ℕ → Bool
is_open_to None project = true
is_open_to (Some own) project = own == project

abbrev pub has_tag : Runner → List ℕ → Bool
has_tag runner tag = list_any (λ own. bytes_eq own tag) runner.tags

-- a job with tags asks for all of them, and one without tags for a runner that runs untagged jobs
abbrev pub takes : Runner → List (List ℕ) → Bool
takes runner [] = runner.untagged
takes runner (tag ∷ tags) = list_all (has_tag runner) (tag ∷ tags)

-- the runner may run a job of the project that has these tags, when no group holds the job back
abbrev pub may_run : Runner → ℕ → List (List ℕ) → Bool
may_run runner project tags = not runner.paused && is_open_to runner.project project && takes runner tags

-- the holder's attempt holds this resource group of the project
abbrev pub holds : ℕ → List ℕ → Holder → Bool
holds project group h = (h.project == project) && bytes_eq h.group group

-- the claim is on this resource group of the project
abbrev pub claims_group : ℕ → List ℕ → Claim → Bool
claims_group project group c = (c.project == project) && bytes_eq c.group group

-- none of the claims is on this resource group, if it is one, of the project
abbrev pub is_free : List Claim → ℕ → Option (List ℕ) → Bool
is_free claims project None = true
is_free claims project (Some group) = not (list_any (claims_group project group) claims)

-- The job need not wait for its resource group, if it has one: no live attempt of the project holds it; where the group's mode is oldest_first,
-- no job of an older pipeline of the project with the group is created or pending; and where it is newest_ready_first, no job of a newer
-- pipeline of the project with the group is pending.
abbrev pub resource_free : Groups → QueuedJob → Bool
resource_free groups q = is_free (claims_on groups q.job.pipeline) q.project q.job.options.resource_group

-- the runner may be given the job, which is pending
abbrev pub is_eligible : Runner → Groups → QueuedJob → Bool
is_eligible runner groups q = may_run runner q.project q.job.options.tags && resource_free groups q

-- the job that the runner is given, of pending jobs by number: the first that it may be given
abbrev pub chosen : List QueuedJob → Groups → Runner → Option QueuedJob
chosen queue groups runner = find (is_eligible runner groups) queue
