-- Which requests act on a job, and how a pipeline that was made is asked for.
use Rattle.std.specs.Prelude.{◌≡◌, ℕ}
use Rattle.ci_machine_steps.specs.Prelude.{JobQuery, NewPipeline, PipelineQuery, Request, Play, CancelJob, RetryJob}

-- the request plays the job that the query names, cancels it or tries it again
abbrev pub ActsOnJob : JobQuery → Request → Type 0
ActsOnJob query (Play asked) = asked ≡ query
ActsOnJob query (CancelJob asked) = asked ≡ query
ActsOnJob query (RetryJob asked) = asked ≡ query
ActsOnJob query _ = ⊥

-- the pipeline with this number is asked for, of the project and with the token by which it was made
abbrev pub asks_for : NewPipeline → ℕ → PipelineQuery
asks_for new n = record { project = new.project; token = new.token; pipeline = n }
