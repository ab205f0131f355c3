use Rattle.std.proofs.Common.{ap, sym, ◌∙◌, ◌++◌, codes}
use Rattle.ci_http_messages.specs.Prelude.{job_status_line, crlf}
use Rattle.ci_http_messages.proofs.text.put_job_status.Goals as goal

pub returns-in-Some-clause-items : goal.returns-in-Some-clause-items
returns-in-Some-clause-items c =
    let old = c.args.head.now.items in
    c.put_field.ensures.items ∙ ap (λ t. old ++ (codes "Job-Status: " ++ t ++ crlf)) c.job_status_text.ensures.text ∙ ap (λ s. old ++ job_status_line s) (sym c.in-Some.is)
