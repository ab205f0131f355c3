-- From which numbers on pipelines and jobs are new.
use Rattle.std.specs.Prelude.{◌≤◌, ◌<◌, All}
use Rattle.ci_machine_steps.specs.Prelude.{Kept, Record, RowChange, Put}
use Rattle.ci_memory_boards.specs.declared.fresh.Fresh.{Fresh}

-- no job is of a pipeline from the one number on, and no need, attempt or row of a job from the other on
pub record IsFresh (f : Fresh) (k : Kept) : Type 0 where
  pub jobs : All (λ j. j.pipeline < f.pipeline) k.state.jobs
  pub needs : All (λ w. w.job < f.job) k.state.needs
  pub attempts : All (λ a. a.job < f.job) k.state.attempts
  pub rows : All (λ r. r.job < f.job) k.board

-- neither number is less
abbrev pub IsNoLess : Fresh → Fresh → Type 0
IsNoLess f g = (f.pipeline ≤ g.pipeline) × (f.job ≤ g.job)

-- what the change puts is of a pipeline or of a job before them
abbrev pub IsBefore : RowChange → Fresh → Type 0
IsBefore (Put (Record.Job j)) f = j.pipeline < f.pipeline
IsBefore (Put (Record.Need w)) f = w.job < f.job
IsBefore (Put (Record.Attempt a)) f = a.job < f.job
IsBefore _ f = Unit {0}
