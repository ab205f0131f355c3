use Rattle.std.proofs.Common.{◌==◌, find, Some, sym, ap, ◌∙◌}
use Rattle.std.proofs.lemmas.Option.{IfSome_then}
use Rattle.ci_machine_steps.specs.Prelude.{Job, is_within}
use Rattle.ci_server_lookups.specs.declared.sheet.Sheet.{Sheet}
use Rattle.ci_server_lookups.specs.Prelude.{IsRight}
use Rattle.ci_memory_boards.proofs.Found.{found_among}
use Rattle.ci_memory_boards.proofs.Lists.{all_found}
use Rattle.ci_memory_boards.proofs.boards.Boards.job.Goals as goal

pub returns : goal.returns
returns c =
    let one : Sheet = c.in_ok-sheet.sheet.now in
    let job : Job = c.in_ok-job.job.now in
    IfSome_then c.copy_of_job.result c.copy_of_job.ensures (λ copy same k order are.
    let its = all_found (λ (m : Sheet). IsRight m k) (λ m. is_within m.first m.last c.args.id) one c.known.result.now (sym c.in_ok-sheet.ensures) (c.known.ensures k are) in
    found_among (λ (j : Job). j.id) (λ j. j.pipeline == one.pipeline) c.args.id job k.state.jobs one.jobs.items order.jobs its.0.jobs
    (ap (find (λ j. j.id == c.args.id)) (sym c.as_slice.ensures.value) ∙ sym c.in_ok-job.ensures)
    ∙ ap (λ j. Some j) (sym same))
