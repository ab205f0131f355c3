use Rattle.std.proofs.Common.{not, rules}
use Rattle.std.proofs.lemmas.Fn.{filter_same}
use Rattle.ci_memory.specs.declared.newest.NewestList.{NewestList}
use Rattle.ci_memory.specs.Newest.{is_of_list}
use Rattle.ci_memory.proofs.newest.without.Goals as goal

pub returns : goal.returns
returns c = filter_same _ (λ (x : NewestList). not (is_of_list x c.args.change.now)) _ (λ x b f k. search rules) _ _ c.retain.ensures.filtered
