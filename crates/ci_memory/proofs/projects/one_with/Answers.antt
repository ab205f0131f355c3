use Rattle.std.proofs.Common.{Some, sym, ap, ◌∙◌}
use Rattle.std.proofs.lemmas.Option.{IfSome_then}
use Rattle.ci_memory.proofs.Finds.{found_again}
use Rattle.ci_memory.proofs.projects.one_with.Goals as goal

pub returns : goal.returns
returns c =
    IfSome_then c.copy_of.result c.copy_of.ensures (λ copy same s all.
    found_again s c.args.token.now c.in_ok-project.project.now c.args.projects.now all (sym c.in_ok-project.ensures) ∙ ap (λ p. Some p) (sym same))
