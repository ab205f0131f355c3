-- The board of a pipeline in a state with rows.
use Rattle.std.specs.Prelude.{◌≡◌, ℕ, true, List, length, map, All}
use Rattle.std.specs.Ordering.{nat_cmp}
use Rattle.std.specs.List.Sorted.{IsStrictlySortedBy}
use Rattle.ci_machine.specs.Prelude.{JobGraph, number_at, is_among, IsAcyclic}
use Rattle.ci_machine_steps.specs.Prelude.{Row, BoardState, differing, Job, Need, BoardRow, State, pairs_among, predecessors_by, numbers_of, graph_of, facts_of, rows_of}
use Rattle.ci_board.specs.Prelude.{row_at}

-- a job that one of the jobs with these numbers waits for is one of them too
abbrev pub AreNamed : List ℕ → List Need → Type 0
AreNamed numbers needs = All (λ w. is_among numbers w.job ≡ true → is_among numbers w.pred ≡ true) needs

-- the jobs with these numbers wait for one another alone, and in no circle
pub record FitTogether (numbers : List ℕ) (needs : List Need) : Type 0 where
  pub named : AreNamed numbers needs
  pub acyclic : IsAcyclic (pairs_among numbers needs)

-- The graph is that of these jobs with these needs among others: it has their parts and, where they stand by their numbers, their predecessors.
pub record IsGraphOf (graph : JobGraph) (jobs : List Job) (needs : List Need) : Type 0 where
  pub parts : graph.parts ≡ map (λ j. j.options.part) jobs
  pub predecessors : IsStrictlySortedBy nat_cmp (map (λ j. j.id) jobs) → graph.predecessors ≡ predecessors_by (pairs_among (map (λ j. j.id) jobs) needs) (length jobs)

-- The graph is that of a pipeline's jobs: it has their parts, and the predecessors that the needs of the state give them. Each need of such a job
-- names another of them, and they wait for each other in no circle.
pub record IsItsGraph (s : State) (pipeline : ℕ) (graph : JobGraph) : Type 0 where
  pub parts : graph.parts ≡ (graph_of s pipeline).parts
  pub predecessors : graph.predecessors ≡ (graph_of s pipeline).predecessors
  pub fit : FitTogether (numbers_of s pipeline) s.needs

-- A loaded board is that of the pipeline: its graph has the same parts and predecessors, on which alone the rows depend.
pub record IsBoardOf (s : State) (board : List BoardRow) (pipeline : ℕ) (loaded : BoardState) : Type 0 where
  pub parts : loaded.graph.parts ≡ (graph_of s pipeline).parts
  pub predecessors : loaded.graph.predecessors ≡ (graph_of s pipeline).predecessors
  pub its_facts : loaded.facts ≡ facts_of s pipeline
  pub its_rows : loaded.rows ≡ rows_of s board pipeline

-- the row of the job at a position, among jobs with these numbers and rows
abbrev pub board_row : List ℕ → List Row → ℕ → BoardRow
board_row numbers rows position = record { job = number_at numbers position; row = row_at rows position }

-- the new rows of the jobs whose rows differ
abbrev pub changed_rows : List ℕ → List Row → List Row → List BoardRow
changed_rows numbers olds rows = map (board_row numbers rows) (differing 0 olds rows)
