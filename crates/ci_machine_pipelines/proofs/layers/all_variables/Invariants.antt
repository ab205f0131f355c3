use Rattle.std.proofs.Common.{◌≡◌, ◌+◌, ◌++◌, drop, map}
use Rattle.ci_graph_layout.specs.Prelude.{config_view, given_view, included_view}
use Rattle.ci_machine_steps.specs.Prelude.{variables_from}
use Rattle.ci_machine_pipelines.proofs.layers.all_variables.Given as goal

-- the variables so far, and those of the jobs that are left, are those of all
abbrev pub invariant-loop-job : goal.invariant-loop-job
invariant-loop-job l = record {
  count : l.number ≡ l.fn.first + l.job-index;
  rest : l.variables.items ++ variables_from (given_view l.fn.given) (config_view l.fn.config) l.number (map included_view (drop l.job-index l.jobs)) ≡ variables_from (given_view l.fn.given) (config_view l.fn.config) l.fn.first (map included_view l.jobs);
}
