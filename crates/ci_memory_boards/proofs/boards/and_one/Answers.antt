use Rattle.std.proofs.Common.{IfSome, List, All, subst, sym}
use Rattle.std.proofs.lemmas.Option.{IfSome_then}
use Rattle.ci_server_lookups.specs.declared.sheet.Sheet.{Sheet}
use Rattle.ci_server_lookups.specs.Prelude.{IsRight}
use Rattle.ci_memory_boards.proofs.Learned.{all_learned}
use Rattle.ci_memory_boards.proofs.boards.and_one.Goals as goal

pub returns-in-Some : goal.returns-in-Some
returns-in-Some c k one all =
    let were = subst (λ (o : _). IfSome o (λ v. All (λ m. IsRight m k) v.items)) c.in-Some.is all in
    IfSome_then c.with_one.result c.with_one.ensures.learned (λ v is.
    subst (λ (l : List Sheet). All (λ m. IsRight m k) l) (sym is) (all_learned (λ m. IsRight m k) c.in-Some.sheets.items c.args.sheet were one))
