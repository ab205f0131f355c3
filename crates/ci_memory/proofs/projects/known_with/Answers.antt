use Rattle.std.proofs.Common.{IfSome, All, subst}
use Rattle.std.proofs.lemmas.Option.{IfSome_then}
use Rattle.ci_memory.specs.Projects.{IsFound}
use Rattle.ci_memory.proofs.Finds.{found_by}
use Rattle.ci_memory_boards.proofs.Lists.{all_more}
use Rattle.ci_memory.proofs.projects.known_with.Goals as goal

pub returns-in-Some : goal.returns-in-Some
returns-in-Some c s token all is =
    let was = subst (λ (o : _). IfSome o (λ v. All (IsFound s) v.items)) c.in-Some.is all in
    IfSome_then c.with_one.result c.with_one.ensures (λ v with. all_more (IsFound s) with.0 c.args.project.now c.in-Some.projects.items v.items with.1 was (found_by s token c.args.project.now is))
