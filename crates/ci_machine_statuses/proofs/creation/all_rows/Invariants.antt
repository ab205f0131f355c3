use Rattle.std.proofs.Common.{◌≡◌, map, take}
use Rattle.ci_machine_statuses.proofs.creation.all_rows.Given as goal

-- the rows of the jobs so far
abbrev pub invariant-loop-j : goal.invariant-loop-j
invariant-loop-j g l = record { jobs : map (λ r. r.job) l.rows.items ≡ map (λ j. j.id) (take l.j l.jobs); rows : map (λ r. r.row) l.rows.items ≡ take l.j l.board.rows }
