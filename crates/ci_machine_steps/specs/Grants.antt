-- A runner asks for a job.
use Rattle.std.specs.Prelude.{ℕ, List, [], if◌then◌else◌, nat_lt, Option, Some, None, codes}
use Rattle.serde_json.specs.Written.{compact_text}
use Rattle.ci_machine.specs.Prelude.{MAX_NUMBER, Live, plain, grant_data}
use Rattle.ci_machine.specs.declared.records.Runner.{Runner}
use Rattle.ci_machine.specs.declared.records.JobVariable.{JobVariable}
use Rattle.ci_machine.specs.declared.records.QueuedJob.{QueuedJob}
use Rattle.ci_machine.specs.declared.change.Record.{Record}
use Rattle.ci_machine.specs.declared.change.Counter.{Counter}
use Rattle.ci_machine.specs.declared.request.Seed.{Seed}
use Rattle.ci_machine.specs.declared.reply.Code.TheVariants.{M4, M15}
use Rattle.ci_machine.specs.declared.reply.HttpStatus.TheVariants.{NoContent}
use Rattle.ci_machine_steps.specs.Plans.{Plan, refused, created, token_of, numbered}

-- no runner has the token
abbrev pub unknown_runner : Plan
unknown_runner = refused M4

-- no pending job is one that the runner may run
abbrev pub nothing_to_run : Plan
nothing_to_run = (plain NoContent, [])

abbrev pub granted : Runner → QueuedJob → List JobVariable → ℕ → ℕ → Seed → Plan
granted runner q variables id now seed =
    let token = token_of (codes "j") id seed in (
      created (compact_text (grant_data id token q variables)),
      numbered (Record.Attempt (record { id = id; job = q.job.id; runner = runner.id; token = token; granted = now; seen = now; state = Live })) Counter.Attempt id,
    )

-- the runner is offered this job with its variables: an attempt is made, with this next number
abbrev pub grant : Runner → QueuedJob → List JobVariable → ℕ → ℕ → Seed → Plan
grant runner q variables next now seed = if nat_lt MAX_NUMBER next then refused M15 else granted runner q variables next now seed

-- a runner asks for a job: the runner, the job that it is offered with its variables, and the next number of an attempt
abbrev pub ask_job : Option Runner → Option QueuedJob → List JobVariable → ℕ → ℕ → Seed → Plan
ask_job None offer variables next now seed = unknown_runner
ask_job (Some runner) None variables next now seed = nothing_to_run
ask_job (Some runner) (Some q) variables next now seed = grant runner q variables next now seed
