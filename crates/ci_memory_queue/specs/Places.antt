-- Where a job stands, by its records, and whether it waits for its turn, by its row.
use Rattle.std.specs.Prelude.{ℕ, Bool, false, ◌||◌, List, Option, Some, None, option_map, option_and_then}
use Rattle.ci_machine_steps.specs.Prelude.{Status, Created, Pending, is_status, BoardRow, GroupOrder, OldestFirst, NewestReadyFirst, Job, Pipeline, State, job_at, pipeline_at}
use Rattle.ci_store.specs.Prelude.{row_at}
use Rattle.ci_memory_queue.specs.declared.lines.Place.{Place}

-- the place of a job of a pipeline
abbrev pub place_by : Job → Pipeline → Place
place_by j p = record { pipeline = j.pipeline; project = p.project; group = j.options.resource_group }

-- the place of the job with a number: none where it or its pipeline isn't there
abbrev pub place_at : State → ℕ → Option Place
place_at s n = option_and_then (λ j. option_map (place_by j) (pipeline_at s j.pipeline)) (job_at s n)

-- In the one order jobs count that are created or pending, and in the other those that are pending.
abbrev pub counts_as : GroupOrder → Status → Bool
counts_as OldestFirst s = is_status s Created || is_status s Pending
counts_as NewestReadyFirst s = is_status s Pending

-- by its row a job counts in the order; one without a row doesn't
abbrev pub counts : GroupOrder → Option BoardRow → Bool
counts order None = false
counts order (Some r) = counts_as order r.row.status

-- the job with this number counts in the order
abbrev pub counts_at : GroupOrder → List BoardRow → ℕ → Bool
counts_at order board n = counts order (row_at n board)
