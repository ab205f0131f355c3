use Rattle.std.proofs.Common.{IfSome, All, subst}
use Rattle.ci_server_lookups.specs.Prelude.{IsRight}
use Rattle.ci_memory_boards.proofs.boards.sheets_after.Goals as goal

pub returns-in-Some : goal.returns-in-Some
returns-in-Some c k indexes order right = c.each_after.ensures k indexes order (subst (λ (o : _). IfSome o (λ v. All (λ m. IsRight m k) v.items)) c.in-Some.is right)
