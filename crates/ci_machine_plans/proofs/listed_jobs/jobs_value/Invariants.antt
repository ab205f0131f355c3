use Rattle.std.proofs.Common.{◌≡◌, ◌++◌, drop, map}
use Rattle.serde_json.specs.View.{view}
use Rattle.ci_machine_steps.specs.Prelude.{told_jobs}
use Rattle.ci_machine_plans.proofs.listed_jobs.jobs_value.Given as goal

-- the jobs so far, and those that are left, are all of them
abbrev pub invariant-loop-i : goal.invariant-loop-i
invariant-loop-i l =
    map view l.items.items ++ told_jobs l.around.claims.now l.around.project l.around.runners.now l.around.needs.now l.around.attempts.now (drop l.i l.jobs) (drop l.i l.facts) (drop l.i l.rows)
    ≡ told_jobs l.around.claims.now l.around.project l.around.runners.now l.around.needs.now l.around.attempts.now l.jobs l.facts l.rows
