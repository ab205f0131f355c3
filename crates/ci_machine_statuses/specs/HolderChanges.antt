-- What an event changes of what is kept beside the state: which groups are held, and which pipelines aren't finished.
use Rattle.std.specs.Prelude.{ℕ, Bool, true, false, ◌==◌, List, [], ◌++◌, map, filter, find, flat_map, Option, Some, None, option_map, option_to_list}
use Rattle.ci_machine_steps.specs.Prelude.{Status, Pipeline, Job, QueuedJob, Attempt, Holder, IndexChange, Close, held_by, is_unfinished, is_lease_on}
use Rattle.ci_machine.specs.declared.change.IndexChange.TheVariants.{Open}
use Rattle.ci_machine.specs.Holders as holders
use Rattle.ci_machine_statuses.specs.declared.act.Act.{Act}
use Rattle.ci_machine_statuses.specs.declared.act.Act.TheVariants.{Play, Retry, Cancel}

-- ---- pipelines that aren't finished

-- whether the pipeline wasn't finished, and whether it isn't
abbrev pub turned_by : ℕ → Bool → Bool → Option IndexChange
turned_by pipeline false true = Some (Open (record { pipeline = pipeline }))
turned_by pipeline true false = Some (Close pipeline)
turned_by pipeline false false = None
turned_by pipeline true true = None

-- its status comes from the one to the other
abbrev pub turned : ℕ → Status → Status → Option IndexChange
turned pipeline before after = turned_by pipeline (is_unfinished before) (is_unfinished after)

-- it is made, and has this status
abbrev pub opened : ℕ → Status → Option IndexChange
opened pipeline status = turned_by pipeline false (is_unfinished status)

-- ---- groups

-- the job with a number among jobs of one project
abbrev pub queued_among : ℕ → List Job → ℕ → Option QueuedJob
queued_among project jobs n = option_map (λ j. record { job = j; project = project }) (find (λ j. j.id == n) jobs)

-- what a lease on one of these jobs of a project holds
abbrev pub held_among : ℕ → List Job → Attempt → List Holder
held_among project jobs a = held_by a.id (queued_among project jobs a.job)

-- the leases on these jobs of a project, of these attempts, end: what each of them held is free
abbrev pub freed : ℕ → List Job → List Attempt → List IndexChange
freed project jobs attempts = map holders.freed (flat_map (held_among project jobs) (filter (is_lease_on jobs) attempts))

-- ---- a pipeline

-- the leases on these of its jobs end, and its status comes from the one to the other
abbrev pub of_pipeline : Pipeline → List Job → List Attempt → Status → Status → List IndexChange
of_pipeline p jobs attempts before after = freed p.project jobs attempts ++ option_to_list (turned p.id before after)

-- the jobs whose leases end where a user acts on these
abbrev pub unleased : Act → List Job → List Job
unleased Play jobs = []
unleased Retry jobs = []
unleased Cancel jobs = jobs
