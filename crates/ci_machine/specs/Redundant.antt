-- Which pipeline a newer one makes redundant.
use Rattle.std.specs.Prelude.{Bool, true, false, ◌&&◌, not, List, map, find, nat_lt, ◌==◌, Option}
use Rattle.std.specs.List.{list_any}
use Rattle.std.specs.Str.{bytes_eq}
use Rattle.ci_board.specs.declared.facts.Status.{Status}
use Rattle.ci_machine.specs.declared.records.RefKind.{RefKind}
use Rattle.ci_machine.specs.declared.records.RefKind.TheVariants.{Branch, Tag}
use Rattle.ci_machine.specs.declared.records.Pipeline.{Pipeline}
use Rattle.ci_machine.specs.declared.records.PipelineWithStatus.{PipelineWithStatus}
use Rattle.ci_machine.specs.declared.records.Job.{Job}
use Rattle.ci_machine.specs.declared.records.AttemptWithJob.{AttemptWithJob}

-- a pipeline of this status isn't finished
abbrev pub is_unfinished : Status → Bool
is_unfinished Status.Pending = true
is_unfinished Status.Running = true
is_unfinished Status.Manual = true
is_unfinished _ = false

abbrev pub same_kind : RefKind → RefKind → Bool
same_kind Branch Branch = true
same_kind Tag Tag = true
same_kind Branch Tag = false
same_kind Tag Branch = false

-- q is a newer pipeline than p, of the same project, for the same branch or the same tag
abbrev pub is_newer_of : Pipeline → Pipeline → Bool
is_newer_of p q = nat_lt p.id q.id && (q.project == p.project) && bytes_eq q.git_ref p.git_ref && same_kind q.kind p.kind

-- the job is one of the pipeline's, and isn't interruptible
abbrev pub is_bound_to : Pipeline → Job → Bool
is_bound_to p j = (j.pipeline == p.id) && not j.options.interruptible

-- the jobs of which these are the attempts
abbrev pub tried_in : List AttemptWithJob → List Job
tried_in attempts = map (λ a. a.queued.job) attempts

-- The pipeline isn't finished, a newer one of its project, ref and kind is among the others, and each of its jobs that was tried is
-- interruptible: these are the jobs of which there is an attempt, be it one that has ended or is set aside.
abbrev pub is_redundant : List PipelineWithStatus → List Job → PipelineWithStatus → Bool
is_redundant others tried p =
    is_unfinished p.status && list_any (λ q. is_newer_of p.pipeline q.pipeline) others && not (list_any (is_bound_to p.pipeline) tried)

-- the redundant pipeline of least number, of pipelines by number
abbrev pub first_redundant : List PipelineWithStatus → List Job → Option PipelineWithStatus
first_redundant pipelines tried = find (is_redundant pipelines tried) pipelines
