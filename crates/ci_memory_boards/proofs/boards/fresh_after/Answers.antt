use Rattle.std.proofs.Common.{IfSome, subst}
use Rattle.std.proofs.lemmas.Option.{IfSome_then}
use Rattle.ci_memory_boards.specs.Fresh.{IsFresh}
use Rattle.ci_memory_boards.proofs.boards.fresh_after.Goals as goal

pub returns-in-Some : goal.returns-in-Some
returns-in-Some c k indexes gone is =
    IfSome_then c.after.result c.after.ensures (λ f then. then k indexes gone (subst (λ (o : _). IfSome o (λ f. IsFresh f k)) c.in-Some.is is))
