use Rattle.std.proofs.Common.{List, ap, ◌∙◌}
use Rattle.ci_machine_steps.specs.Prelude.{layer_view}
use Rattle.ci_machine_pipelines.proofs.Merging.{Word, onto, onto_none, onto_further}
use Rattle.ci_machine_pipelines.proofs.layers.merged.Goals as goal

pub loop-pair-init : goal.loop-pair-init
loop-pair-init c =
    ap (λ (es : List (Word × Word)). onto (layer_view c.args.pairs.items) (layer_view es)) c.new-all.ensures.empty ∙ onto_none (layer_view c.args.pairs.items)

pub loop-pair-preserved : goal.loop-pair-preserved
loop-pair-preserved c =
    onto_further c.loop-pair.pairs.items c.pop.new.self.items c.in-Some.pair (layer_view c.loop-pair.all.entries) (layer_view c.put_pair.new.all.entries) c.in-Some.ensures.items c.in_ok-put_pair.ensures
    ∙ c.loop-pair.invariant
