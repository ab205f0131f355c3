-- Why what rules look for wasn't looked for.
use Rattle.ci_config.specs.Prelude.{ExprFault}
use Rattle.ci_graph_layout.specs.declared.fault.PlanFault.{PlanFault}
use Rattle.ci_graph_layout.specs.declared.fault.PlanFault.TheVariants.{Pattern, Memory}

abbrev pub unmade : ExprFault → PlanFault
unmade ExprFault.Memory = Memory
unmade (ExprFault.Fault code) = Pattern
