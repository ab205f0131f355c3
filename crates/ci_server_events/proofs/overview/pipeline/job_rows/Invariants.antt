use Rattle.std.proofs.Common.{◌≡◌, ◌++◌, List, drop, map}
use Rattle.ci_machine_steps.specs.Prelude.{BoardRow, row_for}
use Rattle.ci_server_events.specs.Told.{job_told}
use Rattle.ci_server_events.proofs.overview.pipeline.job_rows.Given as goal

-- the jobs that are told, with those that are left, are all
abbrev pub invariant-loop-i : goal.invariant-loop-i
invariant-loop-i l =
    (board : List BoardRow) → l.rows ≡ map (λ j. row_for board j.id) l.jobs → l.told.items ++ map (job_told l.claims l.project l.attempts board) (drop l.i l.jobs) ≡ map (job_told l.claims l.project l.attempts board) l.jobs
