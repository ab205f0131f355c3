use Rattle.std.proofs.Common.{◌≡◌, map, take}
use Rattle.ci_machine_statuses.specs.Acts.{facts_change}
use Rattle.ci_machine_statuses.proofs.outcome.changes_at.Given as goal

-- the changes so far
abbrev pub invariant-loop-place : goal.invariant-loop-place
invariant-loop-place g l = l.changes.items ≡ map (facts_change l.act l.board.facts) (take l.place-index l.places)
