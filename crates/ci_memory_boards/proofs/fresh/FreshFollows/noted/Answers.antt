use Rattle.std.proofs.lemmas.Option.{IfSome_then}
use Rattle.ci_memory_boards.proofs.FreshStays.{fresh_changed}
use Rattle.ci_memory_boards.proofs.fresh.FreshFollows.noted.Goals as goal

pub returns : goal.returns
returns c = IfSome_then c.behind.result c.behind.ensures (λ f more k is. fresh_changed c.args.self f c.args.change.now k more.0 more.1 is)
