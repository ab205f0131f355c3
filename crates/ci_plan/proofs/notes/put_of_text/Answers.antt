use Rattle.std.proofs.Common.{◌≡◌, ℕ, List, map, Err, sym, subst, ap, ◌∙◌, OnOk}
use Rattle.ci_graph_layout.specs.Prelude.{token_view}
use Rattle.ci_plan.specs.Notes.{compared, compared_in, with_names}
use Rattle.ci_plan.proofs.Noting.{Tells, compared_known, compared_none}
use Rattle.ci_plan.proofs.notes.put_of_text.Goals as goal

pub returns-in-Ok : goal.returns-in-Ok
returns-in-Ok c =
    let text = c.args.text.now in
    let same : compared (map token_view c.deref.result.now) ≡ compared_in text =
    ap (λ ts. compared (map token_view ts)) c.deref.ensures.value ∙ sym (compared_known text c.in-Ok.tokens c.in-Ok.ensures.only) in
    subst (λ (names : List (List ℕ)). OnOk c.put_of_tokens.result (c.put_of_tokens.new.notes.items ≡ with_names c.args.asking c.args.notes.now.items names)) same c.put_of_tokens.ensures

pub returns-in-Err-Fault : goal.returns-in-Err-Fault
returns-in-Err-Fault c =
    let text = c.args.text.now in
    let tells : Tells text (Err c.in-Err-Fault.field-0) = c.in-Err-Fault.ensures.only in
    sym (ap (with_names c.args.asking c.args.notes.now.items) (compared_none text c.in-Err-Fault.field-0 c.in-Err-Fault.field-0-0 c.in-Err-Fault.field-0-is tells))
