use Rattle.std.proofs.Common.{not, ◌==◌, rules}
use Rattle.std.proofs.lemmas.Fn.{filter_same}
use Rattle.ci_memory_boards.proofs.puts.take_out.Goals as goal

pub returns : goal.returns
returns g c = filter_same _ (λ x. not (c.args.number == g.T.Numbered.number_of x)) _ (λ x b f k. search rules) _ _ c.retain.ensures.filtered
