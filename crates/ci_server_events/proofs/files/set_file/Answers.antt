use Rattle.std.proofs.Common.{Ok, Option, Result, subst, sym, ap, ◌∙◌}
use Rattle.ci_machine_steps.specs.Prelude.{Project, Code, asked_project}
use Rattle.ci_machine_steps.specs.Files as machine
use Rattle.ci_server_lookups.proofs.Loading.{yields}
use Rattle.ci_server_events.proofs.Asking.{lent}
use Rattle.ci_server_events.proofs.Leaving.{file_leaves}
use Rattle.ci_server_events.proofs.files.set_file.Goals as goal

pub of_records-requires : goal.of_records-requires
of_records-requires g c = λ s. file_leaves s (Ok c.in-Ok.found.now) c.args.new.text c.in_ok-plan-in-Ok.plan (c.in_ok-plan-in-Ok.ensures)

-- the project that was looked up is the one that is named, and its plan is the file's
pub returns-in-Ok : goal.returns-in-Ok
returns-in-Ok g c =
    let new = c.args.new in
    let made = c.of_records in
    yields c.in_ok-project.was c.project_with.ensures
    (λ k project kept.
    let asked = ap (λ (o : Option Project). asked_project o new.project) (sym project) ∙ lent c.asked.ensures c.in-Ok.is in
    record {
      made = subst (λ (r : Result Project Code). machine.SetsFile r new.text (made.result.answer, made.result.changes)) (sym asked)
          (subst (machine.SetsFile (Ok c.in-Ok.found.now) new.text) (sym made.ensures.plan) (c.in_ok-plan-in-Ok.ensures));
      settled = made.ensures.settled k kept;
    })
