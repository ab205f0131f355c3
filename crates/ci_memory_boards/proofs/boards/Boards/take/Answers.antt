use Rattle.std.proofs.Common.{All, IfSome, subst}
use Rattle.std.proofs.lemmas.Option.{IfSome_then}
use Rattle.ci_server_lookups.specs.Prelude.{IsRight}
use Rattle.ci_memory_boards.proofs.boards.Boards.take.Goals as goal

-- those that are left are right, as all were
pub returns-in-Some-clause-right : goal.returns-in-Some-clause-right
returns-in-Some-clause-right c k are =
    (c.take_out.ensures.right k (subst (λ (o : _). IfSome o (λ v. All (λ m. IsRight m k) v.items)) c.in-Some.is are.0), are.1)

pub returns-in-Some-clause-taken : goal.returns-in-Some-clause-taken
returns-in-Some-clause-taken c =
    IfSome_then c.take_out.result c.take_out.ensures.taken (λ m right k are. right k (subst (λ (o : _). IfSome o (λ v. All (λ m. IsRight m k) v.items)) c.in-Some.is are.0))
