use Rattle.std.proofs.Common.{List, ℕ, Ok, Err, subst}
use Rattle.std.proofs.lemmas.Result.{IfOk-weaker}
use Rattle.ci_machine_steps.specs.Prelude.{IsRead}
use Rattle.ci_machine_pipelines.specs.declared.files.FileFault.{FileFault}
use Rattle.ci_machine_pipelines.specs.Readings.{Counts}
use Rattle.ci_machine_pipelines.proofs.files.set_file.Goals as goal

pub returns-in-Ok : goal.returns-in-Ok
returns-in-Ok c =
    let said = c.in-Ok.ensures in
    let read : IsRead c.args.text (Ok said.0) = subst (λ (t : List ℕ). IsRead t (Ok said.0)) c.as_str.ensures said.1 in
    IfOk-weaker c.put_file.result _ _ (λ plan is. (Ok said.0, read, is)) (c.put_file.ensures said.0 said.2)

pub returns : goal.returns
returns c =
    let fault = subst (λ (f : FileFault). Counts c.as_str.result.now (Err f)) c.in-Err-Fault.field-0-is c.in-Err-Fault.ensures in
    let read : IsRead c.args.text (Err c.in-Err-Fault.detail) = subst (λ (t : List ℕ). IsRead t (Err c.in-Err-Fault.detail)) c.as_str.ensures fault in
    IfOk-weaker c.faulted.result _ _ (λ plan is. (Err c.in-Err-Fault.detail, read, is)) c.faulted.ensures
