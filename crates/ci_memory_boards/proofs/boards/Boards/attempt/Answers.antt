use Rattle.std.proofs.Common.{◌==◌, find, Some, sym, ap, ◌∙◌}
use Rattle.std.specs.List.{list_any}
use Rattle.std.proofs.lemmas.Option.{IfSome_then}
use Rattle.ci_machine_steps.specs.Prelude.{Attempt, is_within}
use Rattle.ci_server_lookups.specs.declared.sheet.Sheet.{Sheet}
use Rattle.ci_server_lookups.specs.Prelude.{IsRight}
use Rattle.ci_memory_boards.proofs.Found.{found_among}
use Rattle.ci_memory_boards.proofs.Lists.{all_found}
use Rattle.ci_memory_boards.proofs.boards.Boards.attempt.Goals as goal

pub returns : goal.returns
returns c =
    let one : Sheet = c.in_ok-sheet.sheet.now in
    let attempt : Attempt = c.in_ok-attempt.attempt.now in
    IfSome_then c.copy_of_attempt.result c.copy_of_attempt.ensures (λ copy same k order are.
    let its = all_found (λ (m : Sheet). IsRight m k) (λ m. list_any (λ a. a.id == c.args.id) m.attempts.items) one c.known.result.now (sym c.in_ok-sheet.ensures) (c.known.ensures k are) in
    found_among (λ (a : Attempt). a.id) (λ a. is_within one.first one.last a.job) c.args.id attempt k.state.attempts one.attempts.items order.attempts its.0.attempts
    (ap (find (λ a. a.id == c.args.id)) (sym c.as_slice.ensures.value) ∙ sym c.in_ok-attempt.ensures)
    ∙ ap (λ a. Some a) (sym same))
