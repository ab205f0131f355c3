-- What becomes of a pipeline where an attempt of one of its jobs ends.
use Rattle.std.specs.Prelude.{◌≡◌, ℕ, List, [], ◌∷◌}
use Rattle.ci_machine_steps.specs.Prelude.{Attempt, BoardRow, Record, Put, State, applied, put_rows, numbers_of, facts_of, rows_of, AreRowsOf, AreBoard}
use Rattle.ci_machine_statuses.specs.Boards.{changed_rows}
use Rattle.ci_machine_statuses.specs.declared.end.Settled.{Settled}

-- the state in which the attempt stands so
abbrev pub ended_state : State → Attempt → State
ended_state s after = applied (Put (Record.Attempt after) ∷ []) s

-- From the state s with these rows to the state t: the facts and rows of the pipeline's jobs are those of t, the rows that are put are
-- those that differ, and once they are put the rows of all jobs are those of t.
pub record IsSettled (s t : State) (before : List BoardRow) (pipeline : ℕ) (settled : Settled) : Type 0 where
  pub facts : settled.facts.items ≡ facts_of t pipeline
  pub rows : AreRowsOf t pipeline settled.rows.items
  pub differing : settled.changed.items ≡ changed_rows (numbers_of s pipeline) (rows_of s before pipeline) settled.rows.items
  pub board : AreBoard t (put_rows settled.changed.items before)
