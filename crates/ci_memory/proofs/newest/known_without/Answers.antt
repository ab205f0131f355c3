use Rattle.std.proofs.Common.{IfSome, All, List, subst, sym}
use Rattle.ci_machine_steps.specs.Prelude.{changed}
use Rattle.ci_memory.specs.declared.newest.NewestList.{NewestList}
use Rattle.ci_memory.specs.Newest.{IsList}
use Rattle.ci_memory.proofs.Listed.{left_lists}
use Rattle.ci_memory.proofs.newest.known_without.Goals as goal

pub returns-in-Some : goal.returns-in-Some
returns-in-Some c s all =
    let was = subst (λ (o : _). IfSome o (λ v. All (IsList s) v.items)) c.in-Some.is all in
    subst (λ (ls : List NewestList). All (IsList (changed c.args.change.now s)) ls) (sym c.without.ensures) (left_lists c.args.change.now s c.in-Some.lists.items was)
