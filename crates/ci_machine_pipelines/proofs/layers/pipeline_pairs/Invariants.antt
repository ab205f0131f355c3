use Rattle.std.proofs.Common.{◌≡◌, ◌++◌, drop, map}
use Rattle.ci_machine_steps.specs.Prelude.{layer_view}
use Rattle.ci_machine_pipelines.proofs.layers.pipeline_pairs.Given as goal

-- the pairs so far, and those of the variables that are left, are those of all
abbrev pub invariant-loop-variable : goal.invariant-loop-variable
invariant-loop-variable l = layer_view l.pairs.items ++ map (λ v. (v.key, v.value)) (drop l.variable-index l.variables) ≡ map (λ v. (v.key, v.value)) l.variables
