-- The statuses of a state's jobs. They stand in no record: they follow from the jobs of each pipeline, from which of them waits for
-- which, and from their attempts.
use Rattle.std.specs.Prelude.{◌≡◌, ℕ, ◌-◌, List, [], length, map, filter, find, count_by, nat_lt, ◌==◌, Option, Some, None, option_map}
use Rattle.std.specs.List.{last_or, range_with_len}
use Rattle.ci_board.specs.Prelude.{is_among, distinct, firsts_of, JobGraph, AreRows, no_row}
use Rattle.ci_board.specs.declared.facts.Facts.{Facts}
use Rattle.ci_board.specs.declared.facts.Row.{Row}
use Rattle.ci_board.specs.declared.facts.Status.{Status}
use Rattle.ci_machine.specs.declared.records.Job.{Job}
use Rattle.ci_machine.specs.declared.records.Need.{Need}
use Rattle.ci_machine.specs.declared.records.Attempt.{Attempt}
use Rattle.ci_machine.specs.declared.records.BoardRow.{BoardRow}
use Rattle.ci_machine.specs.State.{State}

-- ---- a pipeline in a state

-- the jobs of a pipeline, by number
abbrev pub jobs_of : State → ℕ → List Job
jobs_of s pipeline = filter (λ j. j.pipeline == pipeline) s.jobs

abbrev pub numbers_of : State → ℕ → List ℕ
numbers_of s pipeline = map (λ j. j.id) (jobs_of s pipeline)

-- the attempts of a job, by number
abbrev pub attempts_of : State → ℕ → List Attempt
attempts_of s job = filter (λ a. a.job == job) s.attempts

-- the place of a number in an ascending list: how many stand before it
abbrev pub place_in : List ℕ → ℕ → ℕ
place_in numbers n = count_by (λ m. nat_lt m n) numbers

-- the pair that a need is, by the places of both jobs: the one that is waited for first
abbrev pub pair_of : List ℕ → Need → ℕ × ℕ
pair_of numbers w = (place_in numbers w.pred, place_in numbers w.job)

-- the pairs that the needs of the jobs with these numbers are, by the places of both jobs
abbrev pub pairs_among : List ℕ → List Need → List (ℕ × ℕ)
pairs_among numbers needs = map (pair_of numbers) (filter (λ w. is_among numbers w.job) needs)

-- of each of so many jobs those that it waits for
abbrev pub predecessors_by : List (ℕ × ℕ) → ℕ → List (List ℕ)
predecessors_by pairs count = map (λ place. distinct (firsts_of pairs place)) (range_with_len 0 count)

-- what statuses depend on of the graph of jobs with these needs among others: each job's part, and its predecessors
abbrev pub graph_by : List Job → List Need → JobGraph
graph_by jobs needs = record {
  parts = map (λ j. j.options.part) jobs;
  predecessors = predecessors_by (pairs_among (map (λ j. j.id) jobs) needs) (length jobs);
  successors = [];
  order = [];
  meter = 0;
}

-- the pairs of a pipeline's jobs, by their places
abbrev pub pairs_of : State → ℕ → List (ℕ × ℕ)
pairs_of s pipeline = pairs_among (numbers_of s pipeline) s.needs

abbrev pub graph_of : State → ℕ → JobGraph
graph_of s pipeline = graph_by (jobs_of s pipeline) s.needs

-- how a job's last attempt stands, and how many it has that aren't set aside
abbrev pub facts_in : State → Job → Facts
facts_in s j = record {
  last = option_map (λ a. a.state) (last_or None (attempts_of s j.id));
  attempts = length (attempts_of s j.id) - j.set_aside;
  cancelled = j.cancelled;
  played = j.played;
}

-- of each job of a pipeline
abbrev pub facts_of : State → ℕ → List Facts
facts_of s pipeline = map (facts_in s) (jobs_of s pipeline)

-- ---- the rows of a board

abbrev pub row_or_none : Option BoardRow → Row
row_or_none None = no_row
row_or_none (Some r) = r.row

-- the row of a job
abbrev pub row_for : List BoardRow → ℕ → Row
row_for board job = row_or_none (find (λ r. r.job == job) board)

abbrev pub status_for : List BoardRow → ℕ → Status
status_for board job = (row_for board job).status

-- of each job of a pipeline
abbrev pub rows_of : State → List BoardRow → ℕ → List Row
rows_of s board pipeline = map (row_for board) (numbers_of s pipeline)

-- The board is the state's: it has one row for each job, and those of each pipeline are the rows of its graph with its facts.
pub record AreBoard (s : State) (board : List BoardRow) : Type 0 where
  pub keys : map (λ r. r.job) board ≡ map (λ j. j.id) s.jobs
  pub each : (pipeline : ℕ) → AreRows (graph_of s pipeline) (facts_of s pipeline) (rows_of s board pipeline)

-- The rows of a pipeline's jobs in a state.
pub record AreRowsOf (s : State) (pipeline : ℕ) (rows : List Row) : Type 0 where
  pub long : length rows ≡ length (jobs_of s pipeline)
  pub settled : AreRows (graph_of s pipeline) (facts_of s pipeline) rows
