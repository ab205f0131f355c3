use Rattle.std.proofs.Common.{◌≡◌, map, take}
use Rattle.ci_machine_statuses.specs.Boards.{board_row}
use Rattle.ci_machine_statuses.proofs.settle.rows_at.Given as goal

-- the rows at the positions so far
abbrev pub invariant-loop-position : goal.invariant-loop-position
invariant-loop-position g l = l.rows.items ≡ map (board_row (map (λ j. j.id) l.jobs) l.board.rows) (take l.position-index l.positions)
