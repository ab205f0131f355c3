-- What holds of every step and every reached state.
use Rattle.std.specs.Prelude.{⊤, ◌≡◌, ◌⊎◌, ◌<◌, ◌≤◌, ℕ, Bool, true, false, ◌&&◌, List, [], ◌∷◌, ◌++◌, map, filter, count_by, All, Contains, Some, None, IsSome, Ok, ◌==◌, if◌then◌else◌}
use Rattle.std.specs.Ordering.{nat_cmp}
use Rattle.std.specs.Cmp.Lexicographic.{slice_cmp}
use Rattle.std.specs.List.Sorted.{IsStrictlySortedBy}
use Rattle.serde_json.specs.Written.{compact_text}
use Rattle.ci_config.specs.Config as config
use Rattle.ci_graph_layout.specs.Prelude.{Config, IncludedJob, included}
use Rattle.ci_machine.specs.declared.records.Project.{Project}
use Rattle.ci_machine.specs.declared.records.Runner.{Runner}
use Rattle.ci_machine.specs.declared.records.Pipeline.{Pipeline}
use Rattle.ci_machine.specs.declared.records.Job.{Job}
use Rattle.ci_machine.specs.declared.records.JobVariable.{JobVariable}
use Rattle.ci_machine.specs.declared.records.QueuedJob.{QueuedJob}
use Rattle.ci_machine.specs.declared.records.Attempt.{Attempt}
use Rattle.ci_machine.specs.declared.request.Event.{Event}
use Rattle.ci_machine.specs.declared.request.NewPipeline.{NewPipeline}
use Rattle.ci_machine.specs.declared.request.Request.TheVariants.{CreatePipeline, AskJob, AppendTrace, PruneOne}
use Rattle.ci_machine.specs.declared.reply.Answer.{Answer}
use Rattle.ci_machine.specs.declared.reply.Reply.{Reply}
use Rattle.ci_machine.specs.declared.reply.HttpStatus.{HttpStatus}
use Rattle.ci_machine.specs.declared.reply.HttpStatus.TheVariants.{Created, Accepted, NoContent}
use Rattle.ci_machine.specs.declared.reply.Swept.{Swept}
use Rattle.ci_machine.specs.Prelude.{Live, Cause, is_live, is_over, cause_of, is_redundant, is_open_in, plain, is_eligible, State, AreBoard, grant_data, granted_variables}
use Rattle.ci_machine.specs.Prelude.{is_in_group, groups_in, project_with, project_variables, is_pending, queued, trace_of, lease_of, variables_of, with_status, was_tried}
use Rattle.ci_machine.specs.declared.records.BoardRow.{BoardRow}
use Rattle.ci_machine_steps.specs.Plans.{created, asked_project}
use Rattle.ci_machine_steps.specs.Files.{IsRead}
use Rattle.ci_machine_steps.specs.Pipelines.{given_by, new_job}
use Rattle.ci_machine_steps.specs.Prunes.{pruned_reply}
use Rattle.ci_machine_steps.specs.History.{Past}

-- the answer is a refusal
abbrev pub IsRefusal : Answer → Type 0
IsRefusal (Answer.Reply reply) = IsSome reply.code
IsRefusal (Answer.Swept (Swept.Refused code)) = Unit {0}
IsRefusal (Answer.Swept (Swept.Ended attempt cause)) = ⊥
IsRefusal (Answer.Swept (Swept.Cancelled pipeline)) = ⊥
IsRefusal (Answer.Swept Swept.Nothing) = ⊥

-- each job has at most one live attempt
abbrev pub OneLease : State → Type 0
OneLease s = (job : ℕ) → count_by (λ a. is_live a && (a.job == job)) s.attempts ≤ 1

-- each resource group of a project is held by at most one live attempt
abbrev pub OneLeaseInGroup : State → Type 0
OneLeaseInGroup s = (project : ℕ) (group : List ℕ) → count_by (λ a. is_live a && is_in_group s project group a) s.attempts ≤ 1

-- a job request was answered with a grant, which drew the number n
abbrev pub is_created : HttpStatus → Bool
is_created Created = true
is_created _ = false

abbrev pub is_grant : Event → Answer → Bool
is_grant (Event.Request (AskJob token)) (Answer.Reply reply) = is_created reply.status
is_grant _ _ = false

abbrev pub grants : ℕ → Past → Bool
grants n p = is_grant p.event p.answer && (p.before.next.attempt == n)

-- in that state, by the statuses of its jobs and by how its resource groups stand, the job may be given to the runner, and of the jobs that
-- may it has the least number
pub record IsLeastEligible (s : State) (runner : Runner) (job : Job) : Type 0 where
  pub board : List BoardRow
  pub are_board : AreBoard s board
  pub is_runner : Contains s.runners runner
  pub is_job : Contains s.jobs job
  pub pending : is_pending board job ≡ true
  pub allowed : is_eligible runner (groups_in s board) (queued s job) ≡ true
  pub least : All (λ other. is_pending board other ≡ true → is_eligible runner (groups_in s board) (queued s other) ≡ true → job.id ≤ other.id) s.jobs

-- what a record has for good, apart from what an event may change of it
abbrev pub project_for_good : Project → Project
project_for_good p = record p { file = None }

abbrev pub runner_for_good : Runner → Runner
runner_for_good r = record r { paused = false }

abbrev pub job_for_good : Job → Job
job_for_good j = record j { played = false; cancelled = false; set_aside = 0 }

-- the number, the job, the runner, the token and the moment of the grant
abbrev pub attempt_for_good : Attempt → Attempt
attempt_for_good a = record a { seen = 0; state = Live }

-- The line made the job's pipeline, whose number it drew. By the file that the project had then, the pipeline included the job by its
-- rules, and has it as they say.
pub record IsMadeBy (line : Past) (job : Job) : Type 0 where
  pub new : NewPipeline
  pub asked : line.event ≡ Event.Request (CreatePipeline new)
  pub reply : Reply
  pub answered : line.answer ≡ Answer.Reply reply
  pub made : is_created reply.status ≡ true
  pub drawn : job.pipeline ≡ line.before.next.pipeline
  pub project : Project
  pub its_project : asked_project (project_with line.before new.token) new.project ≡ Ok project
  pub text : List ℕ
  pub its_file : project.file ≡ Some text
  pub configured : Config
  pub read : IsRead text (Ok configured)
  pub spec : config.Job
  pub listed : Contains configured.jobs spec
  pub as_said : IncludedJob
  pub is_included : included (given_by new (project_variables line.before new.project)) configured spec ≡ Some as_said
  pub fixed : job_for_good job ≡ new_job job.pipeline line.before.next.job job.position as_said

-- a line of the history made the job's pipeline, and included the job by its rules
abbrev pub WasIncluded : List Past → Job → Type 0
WasIncluded h job = (line : Past) × Contains h line × IsMadeBy line job

-- just one line of the history granted the attempt; it asked with the token of the attempt's runner, and in the state before it
-- the attempt's job was the least eligible for that runner; and the line that made the job's pipeline included the job by its rules
pub record WasGranted (h : List Past) (a : Attempt) : Type 0 where
  pub line : Past
  pub once : filter (grants a.id) h ≡ line ∷ []
  pub runner : Runner
  pub job : Job
  pub its_runner : runner.id ≡ a.runner
  pub its_job : job.id ≡ a.job
  pub eligible : IsLeastEligible line.before runner job
  pub asked : line.event ≡ Event.Request (AskJob runner.token)
  pub was_included : WasIncluded h job

abbrev pub is_accepted : HttpStatus → Bool
is_accepted Accepted = true
is_accepted _ = false

-- the bytes that a runner sent for the trace of the attempt n, where they were accepted
abbrev pub accepted_bytes : ℕ → Event → Answer → List ℕ
accepted_bytes n (Event.Request (AppendTrace part)) (Answer.Reply reply) = if is_accepted reply.status && (part.attempt == n) then part.bytes else []
accepted_bytes n _ _ = []

-- all the accepted bytes of the attempt n, in the order of the history, whose newest line stands first
abbrev pub all_accepted : ℕ → List Past → List ℕ
all_accepted n [] = []
all_accepted n (p ∷ earlier) = all_accepted n earlier ++ accepted_bytes n p.event p.answer

-- the trace of the attempt is the bytes that its runner sent and the machine accepted, joined in their order
abbrev pub IsTraced : List Past → State → Attempt → Type 0
IsTraced h s a = trace_of s a.id ≡ all_accepted a.id h

-- the line pruned the pipeline with this number
abbrev pub Prunes : Past → ℕ → Type 0
Prunes line n = (before : ℕ) × (line.event ≡ Event.Request (PruneOne before)) × (line.answer ≡ Answer.Reply (pruned_reply n))

-- a line of the history pruned the pipeline with this number
abbrev pub WasPruned : List Past → ℕ → Type 0
WasPruned h n = (line : Past) × Contains h line × Prunes line n

-- a line of the history pruned the pipeline of the attempt's job, which was there before it
abbrev pub WentWithItsJob : List Past → Attempt → Type 0
WentWithItsJob h a = (line : Past) × (job : Job) × Contains h line × Contains line.before.jobs job × (job.id ≡ a.job) × Prunes line job.pipeline

-- an attempt that has ended in the one state stands in the other as it ended, unless it went with its pipeline
abbrev pub EndsStay : List Past → State → State → Type 0
EndsStay h s t = All (λ a. is_live a ≡ false → Contains t.attempts a ⊎ WentWithItsJob h a) s.attempts

-- each record of the one list is in the other, with what it has for good, or has gone
abbrev pub Stay : {A : Type 0} → (A → A) → (A → Type 0) → List A → List A → Type 0
Stay for_good HasGone xs ys = All (λ x. Contains (map for_good ys) (for_good x) ⊎ HasGone x) xs

-- what was there in the one state is there in the other, or was pruned
pub record Stays (h : List Past) (s t : State) : Type 0 where
  pub projects : Stay project_for_good (λ _. ⊥) s.projects t.projects
  pub runners : Stay runner_for_good (λ _. ⊥) s.runners t.runners
  pub pipelines : Stay (λ p. p) (λ p. WasPruned h p.id) s.pipelines t.pipelines
  pub jobs : Stay job_for_good (λ j. WasPruned h j.pipeline) s.jobs t.jobs
  pub attempts : Stay attempt_for_good (WentWithItsJob h) s.attempts t.attempts

-- the records that others name are there
pub record IsLinked (s : State) : Type 0 where
  pub attempt_job : All (λ a. Contains (map (λ j. j.id) s.jobs) a.job) s.attempts
  pub attempt_runner : All (λ a. Contains (map (λ r. r.id) s.runners) a.runner) s.attempts
  pub job_pipeline : All (λ j. Contains (map (λ p. p.id) s.pipelines) j.pipeline) s.jobs
  pub pipeline_project : All (λ p. Contains (map (λ q. q.id) s.projects) p.project) s.pipelines
  pub need_job : All (λ w. Contains (map (λ j. j.id) s.jobs) w.job) s.needs
  pub need_pred : All (λ w. Contains (map (λ j. j.id) s.jobs) w.pred) s.needs

-- the lease of the attempt is over at this moment
abbrev pub is_due : State → ℕ → Attempt → Bool
is_due s now a = is_live a && is_over a (lease_of s a).limit now

-- the attempt n is the due one of least number, and this is why its lease ends
pub record IsLeastDue (s : State) (now n : ℕ) (cause : Cause) : Type 0 where
  pub attempt : Attempt
  pub is_attempt : Contains s.attempts attempt
  pub number : attempt.id ≡ n
  pub due : is_due s now attempt ≡ true
  pub least : All (λ other. is_due s now other ≡ true → n ≤ other.id) s.attempts
  pub why : cause ≡ cause_of (lease_of s attempt)

-- no attempt is due
abbrev pub NoneIsDue : State → ℕ → Type 0
NoneIsDue s now = All (λ a. is_due s now a ≡ false) s.attempts

-- by these rows of its jobs' statuses the pipeline is redundant in the state
abbrev pub is_redundant_in : State → List BoardRow → Pipeline → Bool
is_redundant_in s board p = is_redundant (map (with_status s board) s.pipelines) (filter (was_tried s) s.jobs) (with_status s board p)

-- the pipeline n is the redundant one of least number
pub record IsLeastRedundant (s : State) (n : ℕ) : Type 0 where
  pub board : List BoardRow
  pub are_board : AreBoard s board
  pub pipeline : Pipeline
  pub is_pipeline : Contains s.pipelines pipeline
  pub number : pipeline.id ≡ n
  pub redundant : is_redundant_in s board pipeline ≡ true
  pub least : All (λ other. is_redundant_in s board other ≡ true → n ≤ other.id) s.pipelines

-- no pipeline is redundant
pub record NoneIsRedundant (s : State) : Type 0 where
  pub board : List BoardRow
  pub are_board : AreBoard s board
  pub none : All (λ p. is_redundant_in s board p ≡ false) s.pipelines

-- a sweep ended the due attempt of least number; where there was none, it cancelled the redundant pipeline of least number; or there was none
-- of either
abbrev pub SweepsLeast : State → ℕ → Swept → Type 0
SweepsLeast s now (Swept.Ended n cause) = IsLeastDue s now n cause
SweepsLeast s now (Swept.Cancelled n) = NoneIsDue s now × IsLeastRedundant s n
SweepsLeast s now Swept.Nothing = NoneIsDue s now × NoneIsRedundant s
SweepsLeast s now (Swept.Refused code) = ⊥

abbrev pub IsSweptBy : State → ℕ → Event → Answer → Type 0
IsSweptBy s now Event.Sweep (Answer.Swept ended) = SweepsLeast s now ended
IsSweptBy s now Event.Sweep (Answer.Reply reply) = ⊥
IsSweptBy s now (Event.Request request) a = ⊤

-- the pipeline n is the finished one of least number that was made before the moment
pub record IsLeastPrunable (s : State) (before n : ℕ) : Type 0 where
  pub board : List BoardRow
  pub are_board : AreBoard s board
  pub pipeline : Pipeline
  pub is_pipeline : Contains s.pipelines pipeline
  pub number : pipeline.id ≡ n
  pub old : pipeline.created < before
  pub finished : is_open_in s board pipeline ≡ false
  pub least : All (λ other. other.created < before → is_open_in s board other ≡ false → n ≤ other.id) s.pipelines

-- no finished pipeline was made before the moment
pub record NoneIsPrunable (s : State) (before : ℕ) : Type 0 where
  pub board : List BoardRow
  pub are_board : AreBoard s board
  pub none : All (λ p. p.created < before → is_open_in s board p ≡ true) s.pipelines

-- a request to prune pruned the finished pipeline of least number that was made before its moment, or there was none
abbrev pub IsPrunedBy : State → Event → Answer → Type 0
IsPrunedBy s (Event.Request (PruneOne before)) (Answer.Reply reply) =
    ((n : ℕ) × (reply ≡ pruned_reply n) × IsLeastPrunable s before n) ⊎ ((reply ≡ plain NoContent) × NoneIsPrunable s before)
IsPrunedBy s (Event.Request (PruneOne before)) (Answer.Swept ended) = ⊥
IsPrunedBy s _ a = ⊤

-- the keys of the variables ascend by their bytes, and differ
abbrev pub Ascend : List JobVariable → Type 0
Ascend vs = IsStrictlySortedBy (slice_cmp nat_cmp) (map (λ v. v.key) vs)

-- the answer is a grant's reply, and gives the variables of its job in the order of their keys
abbrev pub GivesInOrder : State → Answer → Type 0
GivesInOrder s a =
    (q : QueuedJob) × (token : List ℕ)
    × (a ≡ Answer.Reply (created (compact_text (grant_data s.next.attempt token q (variables_of s q.job.id)))))
    × Ascend (granted_variables q.job s.next.attempt (variables_of s q.job.id))

-- what holds of each state that a history leads to
pub record Laws (h : List Past) (s : State) : Type 0 where
  pub one_lease : OneLease s
  pub one_in_group : OneLeaseInGroup s
  pub was_granted : All (WasGranted h) s.attempts
  pub traced : All (IsTraced h s) s.attempts
  pub ends_stay : All (λ p. EndsStay h p.before s) h
  pub stays : All (λ p. Stays h p.before s) h
  pub linked : IsLinked s
  pub settled : (board : List BoardRow) × AreBoard s board
  pub swept : All (λ p. IsSweptBy p.before p.now p.event p.answer) h
  pub pruned : All (λ p. IsPrunedBy p.before p.event p.answer) h
  pub in_order : All (λ p. is_grant p.event p.answer ≡ true → GivesInOrder p.before p.answer) h
