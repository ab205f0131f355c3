use Rattle.std.proofs.lemmas.Option.{IfSome_then}
use Rattle.ci_memory_boards.proofs.FreshStays.{fresh_row}
use Rattle.ci_memory_boards.proofs.fresh.FreshFollows.noted_row.Goals as goal

pub returns : goal.returns
returns c = IfSome_then c.behind_job.result c.behind_job.ensures (λ f more k is. fresh_row c.args.self f c.args.row k more.0 more.1 is)
