use Rattle.std.proofs.Common.{◌≡◌}
use Rattle.ci_board.specs.Prelude.{part_of, facts_at, row_at, some_job, answers_yes}
use Rattle.ci_board.proofs.pipeline.some_job.Given as goal

abbrev pub invariant-loop-j : goal.invariant-loop-j
invariant-loop-j l = l.found ≡ some_job l.j (λ j. answers_yes l.ask (part_of l.parts j) (facts_at l.facts j) (row_at l.rows j).status)
