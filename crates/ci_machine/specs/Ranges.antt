-- What is looked up by a range of job numbers, and by a status.
use Rattle.std.specs.Prelude.{ℕ, Bool, ◌&&◌, List, filter, find, nat_le, ◌==◌, Option}
use Rattle.ci_board.specs.declared.facts.Status.{Status}
use Rattle.ci_board.specs.Prelude.{is_status}
use Rattle.ci_machine.specs.declared.records.Need.{Need}
use Rattle.ci_machine.specs.declared.records.Attempt.{Attempt}
use Rattle.ci_machine.specs.declared.records.BoardRow.{BoardRow}

-- from the first number to the last one
abbrev pub is_within : ℕ → ℕ → ℕ → Bool
is_within first last n = nat_le first n && nat_le n last

abbrev pub needs_within : ℕ → ℕ → List Need → List Need
needs_within first last needs = filter (λ w. is_within first last w.job) needs

abbrev pub attempts_within : ℕ → ℕ → List Attempt → List Attempt
attempts_within first last attempts = filter (λ a. is_within first last a.job) attempts

abbrev pub rows_within : ℕ → ℕ → List BoardRow → List BoardRow
rows_within first last board = filter (λ r. is_within first last r.job) board

abbrev pub row_at : ℕ → List BoardRow → Option BoardRow
row_at job board = find (λ r. r.job == job) board

-- the rows with this status, by job
abbrev pub rows_with : Status → List BoardRow → List BoardRow
rows_with s board = filter (λ r. is_status r.row.status s) board
