use Rattle.std.proofs.Common.{◌≡◌, ◌++◌, drop, map}
use Rattle.serde_json.specs.View.{view}
use Rattle.ci_machine_steps.specs.Prelude.{jobs_data}
use Rattle.ci_machine_plans.proofs.body.jobs_with_rows.Given as goal

-- the jobs so far, and those that are left, are all of them
abbrev pub invariant-loop-i : goal.invariant-loop-i
invariant-loop-i l = map view l.items.items ++ jobs_data l.claims l.project (drop l.i l.jobs) (drop l.i l.rows) ≡ jobs_data l.claims l.project l.jobs l.rows
