use Rattle.std.proofs.Common.{IfSome, All, List, subst, sym}
use Rattle.ci_machine_steps.specs.Prelude.{Project, changed}
use Rattle.ci_memory.specs.Projects.{IsFound}
use Rattle.ci_memory.proofs.Finds.{left_found}
use Rattle.ci_memory.proofs.projects.known_without.Goals as goal

pub returns-in-Some : goal.returns-in-Some
returns-in-Some c s all =
    let was = subst (λ (o : _). IfSome o (λ v. All (IsFound s) v.items)) c.in-Some.is all in
    subst (λ (ps : List Project). All (IsFound (changed c.args.change.now s)) ps) (sym c.without.ensures) (left_found c.args.change.now s c.in-Some.projects.items was)
