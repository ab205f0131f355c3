use Rattle.std.proofs.Common.{◌≡◌, ◌++◌, drop, flat_map, string_bytes}
use Rattle.ci_plan.specs.TableText.{many_line}
use Rattle.ci_plan.proofs.table.put_many.Given as goal

abbrev pub invariant-loop-job : goal.invariant-loop-job
invariant-loop-job l = string_bytes l.text ++ flat_map many_line (drop l.job-index l.jobs) ≡ string_bytes l.fn.text ++ flat_map many_line l.jobs
