-- What changes beside the records of a new pipeline.
use Rattle.std.specs.Prelude.{◌≡◌, ℕ, List, length, map, replicate, option_to_list}
use Rattle.ci_machine_steps.specs.Prelude.{no_facts, Row, BoardRow, Job, Need, status_of_jobs, put_rows, IsSound, State, AreBoard}
use Rattle.ci_server_lookups.specs.Prelude.{IsMade, opened}
use Rattle.ci_machine_pipelines.specs.declared.creation.Creation.{Creation}
use Rattle.ci_server_events.specs.declared.planned.Beside.{Beside}

-- the rows make those of any state after a pipeline was made with these jobs and needs
abbrev pub RowsMade : List Job → List Need → List BoardRow → Type 0
RowsMade jobs needs rows = (s t : State) (board : List BoardRow) (pipeline : ℕ) → IsSound s → AreBoard s board → IsMade s t pipeline jobs needs → AreBoard t (put_rows rows board)

-- the rows that are put, without the numbers of their jobs
abbrev pub rows_beside : Beside → List Row
rows_beside b = map (λ r. r.row) b.rows.items

-- The rows of its jobs are put, which make those of the state, and it is unfinished if its status by them is.
pub record IsMadeBeside (c : Creation) (b : Beside) : Type 0 where
  pub keys : map (λ r. r.job) b.rows.items ≡ map (λ j. j.id) c.jobs.items
  pub board : RowsMade c.jobs.items c.needs.items b.rows.items
  pub indexes : b.indexes.items ≡ option_to_list (opened c.pipeline.id (status_of_jobs c.jobs.items (replicate (length c.jobs.items) no_facts) (rows_beside b)))
