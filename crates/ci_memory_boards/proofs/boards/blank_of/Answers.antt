use Rattle.std.proofs.Common.{IfSome, subst}
use Rattle.std.proofs.lemmas.Option.{IfSome_then}
use Rattle.ci_memory_boards.specs.Fresh.{IsFresh}
use Rattle.ci_memory_boards.proofs.boards.blank_of.Goals as goal

pub returns-in-Some : goal.returns-in-Some
returns-in-Some c =
    IfSome_then c.blank.result c.blank.ensures (λ m right k is. right k (subst (λ (o : _). IfSome o (λ f. IsFresh f k)) c.in-Some.is is))
