use Rattle.std.proofs.Common.{◌≡◌, drop}
use Rattle.ci_machine_steps.specs.Prelude.{layer_view}
use Rattle.ci_graph_layout.specs.Prelude.{names}
use Rattle.ci_plan.proofs.notes.has_name.Given as goal

abbrev pub invariant-loop-variable : goal.invariant-loop-variable
invariant-loop-variable l = names (layer_view (drop l.variable-index l.variables)) l.fn.name ≡ names (layer_view l.variables) l.fn.name
