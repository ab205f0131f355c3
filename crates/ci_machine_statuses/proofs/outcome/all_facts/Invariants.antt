use Rattle.std.proofs.Common.{◌≡◌, take}
use Rattle.ci_machine_statuses.proofs.outcome.all_facts.Given as goal

-- the facts so far
abbrev pub invariant-loop-j : goal.invariant-loop-j
invariant-loop-j g l = l.facts.items ≡ take l.j l.board.facts
