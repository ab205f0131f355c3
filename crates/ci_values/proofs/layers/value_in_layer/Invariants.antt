use Rattle.std.proofs.Common.{◌≡◌, drop}
use Rattle.ci_values.specs.Table.{meaning_of}
use Rattle.ci_values.specs.Layers.{layer_view}
use Rattle.ci_values.proofs.layers.value_in_layer.Given as goal

abbrev pub invariant-loop-pair : goal.invariant-loop-pair
invariant-loop-pair l = meaning_of (layer_view (drop l.pair-index l.layer)) l.fn.name ≡ meaning_of (layer_view l.layer) l.fn.name
