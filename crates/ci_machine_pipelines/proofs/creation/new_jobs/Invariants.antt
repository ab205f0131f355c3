use Rattle.std.proofs.Common.{◌≡◌, ◌++◌, drop, map}
use Rattle.ci_graph_layout.specs.Prelude.{included_view}
use Rattle.ci_machine_steps.specs.Prelude.{new_jobs}
use Rattle.ci_machine_pipelines.proofs.creation.new_jobs.Given as goal

-- the jobs so far, and those that are left, are all of them
abbrev pub invariant-loop-position : goal.invariant-loop-position
invariant-loop-position l = l.records.items ++ new_jobs l.fn.pipeline l.fn.first l.position (map included_view (drop l.position l.jobs)) ≡ new_jobs l.fn.pipeline l.fn.first 0 (map included_view l.jobs)
