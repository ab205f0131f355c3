use Rattle.std.proofs.Common.{rules, not, ◌==◌}
use Rattle.std.proofs.lemmas.Fn.{filter_same}
use Rattle.ci_memory.proofs.pipelines.after.take_number_out.Goals as goal

pub returns : goal.returns
returns c = filter_same _ (λ n. not (n == c.args.pipeline)) _ (λ x b f k. search rules) _ _ c.retain.ensures.filtered
