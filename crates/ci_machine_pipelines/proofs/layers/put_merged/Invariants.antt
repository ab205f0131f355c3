use Rattle.std.proofs.Common.{◌≡◌, ◌++◌, map}
use Rattle.ci_machine_steps.specs.Prelude.{layer_view, variable}
use Rattle.ci_machine_pipelines.proofs.layers.put_merged.Given as goal

-- the variables so far, and those of the names that are left, are all of them
abbrev pub invariant-loop-key : goal.invariant-loop-key
invariant-loop-key l = l.variables.items ++ map (variable l.fn.job) (layer_view l.key-iterator) ≡ l.fn.variables.items ++ map (variable l.fn.job) (layer_view l.by_name.entries)
