-- A worked example of sweeps at one moment, each one computed: a lease that is over, and a pipeline that a newer one makes redundant.
use Rattle.std.specs.Prelude.{ℕ, true, List, [], ◌∷◌, codes}
use Rattle.ci_machine_steps.specs.Prelude.{Live, Status, BoardRow, Job, State, first_numbers, plain_options}
use Rattle.ci_machine_laws.specs.Examples.{job, leased, after, swept}
use Rattle.ci_machine_laws.specs.ActExamples.{its_pipeline, tried, row, board_from}
use Rattle.ci_machine_laws.specs.WaitingExamples.{second}

-- a job with this number, of this pipeline, which is interruptible and waits for no other
abbrev pub work : ℕ → ℕ → Job
work pipeline n = record job { id = n; pipeline = pipeline; options = record (plain_options []) { interruptible = true } }

-- two pipelines of `main`: of the jobs 1 and 2, of which the first was granted at 1000, and of the job 3
abbrev pub overtaken : State
overtaken = record leased {
  pipelines = its_pipeline ∷ second (codes "main") ∷ [];
  jobs = work 1 1 ∷ work 1 2 ∷ work 2 3 ∷ [];
  attempts = tried 1 1 Live ∷ [];
  next = first_numbers;
}

-- the jobs 1 and 2 have these statuses, and the job 3 is pending
abbrev pub third_waits : Status → Status → List BoardRow
third_waits one two = board_from 1 (row one 0 0 0 ∷ row two 0 0 0 ∷ row Status.Pending 0 0 0 ∷ [])

-- swept once, and twice, at 1120
abbrev pub swept_once : State
swept_once = after (swept overtaken (third_waits Status.Running Status.Pending) 1120) overtaken

abbrev pub swept_twice : State
swept_twice = after (swept swept_once (third_waits Status.Failed Status.Pending) 1120) swept_once
