-- A finished pipeline that was made before a moment is pruned: it goes, with all that belongs to it.
use Rattle.std.specs.Prelude.{ℕ, Bool, ◌&&◌, not, ◌==◌, nat_lt, List, [], ◌∷◌, ◌++◌, map, filter, find, flat_map, Option, Some, None}
use Rattle.std.specs.List.{list_any}
use Rattle.serde_json.specs.Written.{compact_text}
use Rattle.ci_machine.specs.declared.records.Pipeline.{Pipeline}
use Rattle.ci_machine.specs.declared.records.Job.{Job}
use Rattle.ci_machine.specs.declared.records.Attempt.{Attempt}
use Rattle.ci_machine.specs.declared.records.BoardRow.{BoardRow}
use Rattle.ci_machine.specs.declared.change.Key.{Key}
use Rattle.ci_machine.specs.declared.change.RowChange.{RowChange}
use Rattle.ci_machine.specs.declared.change.RowChange.TheVariants.{Remove}
use Rattle.ci_machine.specs.declared.reply.HttpStatus.TheVariants.{NoContent}
use Rattle.ci_machine.specs.declared.reply.Body.TheVariants.{Json}
use Rattle.ci_machine.specs.declared.reply.Reply.{Reply}
use Rattle.ci_machine.specs.Prelude.{pruned_data, plain, State, jobs_of, is_open_in}
use Rattle.ci_machine_steps.specs.Plans.{Plan, fine}

-- ---- which one goes

-- it was made before the moment, and by these rows of its jobs' statuses it is finished
abbrev pub is_prunable : State → List BoardRow → ℕ → Pipeline → Bool
is_prunable s board before p = nat_lt p.created before && not (is_open_in s board p)

-- the one of least number, if there is one
abbrev pub prunable_in : State → List BoardRow → ℕ → Option Pipeline
prunable_in s board before = find (is_prunable s board before) s.pipelines

-- ---- what goes

-- one of these jobs has the number
abbrev pub is_job_among : List Job → ℕ → Bool
is_job_among jobs n = list_any (λ j. j.id == n) jobs

-- these attempts of the jobs
abbrev pub attempts_among : List Job → List Attempt → List Attempt
attempts_among jobs attempts = filter (λ a. is_job_among jobs a.job) attempts

abbrev pub attempt_goes : Attempt → List RowChange
attempt_goes a = Remove (Key.Trace a.id) ∷ Remove (Key.Attempt a.id) ∷ []

abbrev pub ties_go : Job → List RowChange
ties_go j = Remove (Key.JobVariables j.id) ∷ Remove (Key.Needs j.id) ∷ []

-- These jobs of the pipeline go, with those of the attempts that are theirs, and then the pipeline. Nothing goes before what names it.
abbrev pub pipeline_goes : Pipeline → List Job → List Attempt → List RowChange
pipeline_goes p jobs attempts =
    flat_map attempt_goes (attempts_among jobs attempts)
    ++ (flat_map ties_go jobs
    ++ (map (λ j. Remove (Key.Job j.id)) jobs
    ++ Remove (Key.Pipeline p.id) ∷ []))

-- the reply where the pipeline with the number was pruned
abbrev pub pruned_reply : ℕ → Reply
pruned_reply n = fine (Json (compact_text (pruned_data n)))

-- no finished pipeline was made before the moment
abbrev pub nothing_to_prune : Plan
nothing_to_prune = (plain NoContent, [])

-- the pipeline that is to go, if there is one, its jobs, and all attempts or at least theirs
abbrev pub prune : Option Pipeline → List Job → List Attempt → Plan
prune None jobs attempts = nothing_to_prune
prune (Some p) jobs attempts = (pruned_reply p.id, pipeline_goes p jobs attempts)

-- ---- what is left

-- the state without the pipeline with a number, its jobs, their variables and needs, their attempts, and the traces of these
abbrev pub without_pipeline : State → ℕ → State
without_pipeline s n =
    let jobs = jobs_of s n in
    record s {
      pipelines = filter (λ p. not (p.id == n)) s.pipelines;
      jobs = filter (λ j. not (j.pipeline == n)) s.jobs;
      job_variables = filter (λ v. not (is_job_among jobs v.job)) s.job_variables;
      needs = filter (λ w. not (is_job_among jobs w.job)) s.needs;
      attempts = filter (λ a. not (is_job_among jobs a.job)) s.attempts;
      traces = filter (λ t. not (list_any (λ a. a.id == t.attempt) (attempts_among jobs s.attempts))) s.traces;
    }
