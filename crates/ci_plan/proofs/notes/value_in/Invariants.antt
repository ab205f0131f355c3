use Rattle.std.proofs.Common.{◌≡◌, drop}
use Rattle.ci_machine_steps.specs.Prelude.{meaning_of}
use Rattle.ci_graph_layout.specs.Prelude.{pairs_view}
use Rattle.ci_plan.proofs.notes.value_in.Given as goal

abbrev pub invariant-loop-pair : goal.invariant-loop-pair
invariant-loop-pair l = meaning_of (pairs_view (drop l.pair-index l.pairs)) l.fn.key ≡ meaning_of (pairs_view l.pairs) l.fn.key
