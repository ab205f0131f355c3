use Rattle.std.proofs.Common.{◌==◌, sym, ap, ◌∙◌, eqb-true}
use Rattle.std.proofs.lemmas.Option.{IfSome_then}
use Rattle.ci_machine_steps.specs.Prelude.{jobs_of}
use Rattle.ci_server_lookups.specs.declared.sheet.Sheet.{Sheet}
use Rattle.ci_server_lookups.specs.Prelude.{IsRight}
use Rattle.ci_memory_boards.proofs.Lists.{all_found}
use Rattle.ci_memory_boards.proofs.boards.Boards.jobs_of.Goals as goal

pub returns : goal.returns
returns c =
    let one : Sheet = c.in_ok-sheet.sheet.now in
    IfSome_then c.copies_of_jobs.result c.copies_of_jobs.ensures (λ jobs same k are.
    let it = all_found (λ (m : Sheet). IsRight m k) (λ m. m.pipeline == c.args.pipeline) one c.known.result.now (sym c.in_ok-sheet.ensures) (c.known.ensures k are) in
    same ∙ it.0.jobs ∙ ap (jobs_of k.state) (eqb-true one.pipeline c.args.pipeline it.1))
