use Rattle.std.proofs.Common.{◌==◌, find, sym, ap, ◌∙◌}
use Rattle.ci_machine_steps.specs.Prelude.{BoardRow, is_within}
use Rattle.ci_server_lookups.specs.declared.sheet.Sheet.{Sheet}
use Rattle.ci_server_lookups.specs.Prelude.{IsRight}
use Rattle.ci_memory_boards.proofs.Found.{found_among}
use Rattle.ci_memory_boards.proofs.Lists.{all_found}
use Rattle.ci_memory_boards.proofs.boards.Boards.row.Goals as goal

pub returns : goal.returns
returns c k order are =
    let one : Sheet = c.in_ok-sheet.sheet.now in
    let its = all_found (λ (m : Sheet). IsRight m k) (λ m. is_within m.first m.last c.args.job) one c.known.result.now (sym c.in_ok-sheet.ensures) (c.known.ensures k are) in
    found_among (λ (r : BoardRow). r.job) (λ r. is_within one.first one.last r.job) c.args.job c.in_ok-row.row.now k.board one.rows.items order.rows its.0.rows
    (ap (find (λ r. r.job == c.args.job)) (sym c.as_slice.ensures.value) ∙ sym c.in_ok-row.ensures)
