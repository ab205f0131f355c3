use Rattle.std.proofs.Common.{◌≡◌, map, filter}
use Rattle.std.specs.List.{range_with_len}
use Rattle.ci_machine_statuses.specs.Acts.{is_acted_at}
use Rattle.ci_machine_statuses.proofs.outcome.places_of.Given as goal

-- the places so far
abbrev pub invariant-loop-place : goal.invariant-loop-place
invariant-loop-place g l = l.places.items ≡ filter (is_acted_at l.act l.only (map (λ j. j.id) l.jobs) l.board.rows) (range_with_len 0 l.place)
