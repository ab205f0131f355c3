use Rattle.std.proofs.Common.{◌∙◌, rules, tests, nat_lt}
use Rattle.std.proofs.lemmas.Iterator.{YieldsList-from_slice}
use Rattle.std.proofs.lemmas.Iterator.Consumers.{count_from_yields_List}
use Rattle.std.proofs.lemmas.Iterator.Search.{YieldsList-from_take_while}
use Rattle.std.proofs.lemmas.List.Folds.{length-prefix_len}
use Rattle.ci_memory_boards.proofs.puts.count_before.Goals as goal

pub returns-clause-len : goal.returns-clause-len
returns-clause-len g c =
    count_from_yields_List c.take_while.result _ c.count.ensures.ran
    (YieldsList-from_take_while _ (λ x. nat_lt (g.T.Numbered.number_of x) c.args.number) (YieldsList-from_slice c.args.records.now cc) c.take_while.ensures.closure c.take_while.ensures.done (λ x b q k. search (rules, tests)))
    ∙ length-prefix_len (λ x. nat_lt (g.T.Numbered.number_of x) c.args.number) c.args.records.now
