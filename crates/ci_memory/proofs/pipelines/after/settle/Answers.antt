use Rattle.std.proofs.Common.{rules, not}
use Rattle.std.proofs.lemmas.Fn.{filter_same}
use Rattle.ci_memory.specs.Changes.{is_unsettled}
use Rattle.ci_memory.proofs.pipelines.after.settle.Goals as goal

pub returns : goal.returns
returns c = filter_same _ (λ p. not (is_unsettled c.args.pipeline.now p)) _ (λ x b f k. search rules) _ _ c.retain.ensures.filtered
