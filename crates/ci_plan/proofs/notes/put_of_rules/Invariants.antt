use Rattle.std.proofs.Common.{◌≡◌, ◌+◌, drop}
use Rattle.ci_machine_steps.specs.Prelude.{layer_view}
use Rattle.ci_graph_layout.specs.Prelude.{values_view}
use Rattle.ci_plan.specs.Notes.{of_rules, each_once}
use Rattle.ci_plan.proofs.notes.put_of_rules.Given as goal

abbrev pub invariant-loop-i : goal.invariant-loop-i
invariant-loop-i l = each_once l.notes.items (of_rules l.fn.job (l.i + 1) (layer_view l.fn.seen) (values_view (drop l.i l.rules)))
    ≡ each_once l.fn.notes.items (of_rules l.fn.job 1 (layer_view l.fn.seen) (values_view l.rules))
