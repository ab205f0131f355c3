use Rattle.std.proofs.Common.{◌≡◌, vec_len}
use Rattle.ci_machine_steps.specs.Prelude.{layer_view, merged}
use Rattle.ci_machine_pipelines.proofs.Merging.{onto}
use Rattle.ci_machine_pipelines.proofs.layers.merged.Given as goal

-- those that are left, put on what is there
abbrev pub invariant-loop-pair : goal.invariant-loop-pair
invariant-loop-pair l = onto (layer_view l.pairs.items) (layer_view l.all.entries) ≡ merged (layer_view l.fn.pairs.items)

abbrev pub decreases-loop-pair : goal.decreases-loop-pair
decreases-loop-pair l = vec_len l.pairs
