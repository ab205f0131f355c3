use Rattle.std.proofs.Common.{sym, ◌∙◌}
use Rattle.std.proofs.lemmas.Option.{IfSome_then}
use Rattle.ci_machine_steps.specs.Prelude.{attempts_within}
use Rattle.ci_memory_boards.proofs.Lists.{between_found}
use Rattle.ci_memory_boards.proofs.boards.Boards.attempts_within.Goals as goal

pub returns : goal.returns
returns c =
    IfSome_then c.copies_of_attempts.result c.copies_of_attempts.ensures (λ copies same k are.
    let it = between_found c.args.first c.args.last c.in_ok-sheet.sheet.now c.known.result.now k (sym c.in_ok-sheet.ensures) (c.known.ensures k are) in
    same ∙ it.0.attempts ∙ (λ i. attempts_within (it.1 i) (it.2 i) k.state.attempts))
