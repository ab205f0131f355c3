use Rattle.std.proofs.Common.{ap, ◌∙◌, inl, inr, Err}
use Rattle.ci_machine.specs.Prelude.{refusal}
use Rattle.ci_http_messages.specs.Prelude.{request, refused}
use Rattle.ci_http_messages.proofs.Readings.{tells_map}
use Rattle.ci_http.specs.Serving.{ReadsByMemory}
use Rattle.ci_http.proofs.serve.reply_to.Goals as goal

pub returns-in-Ok-clause-reply : goal.returns-in-Ok-clause-reply
returns-in-Ok-clause-reply g c =
    elim c.answer.ensures [ inl (lacks, asks) ↦ inl (lacks, tells_map _ ReadsByMemory _ _ (λ b r is. inr (c.in-Ok.call, is, asks)) c.in-Ok.ensures.call) | inr answers ↦ inr (request c.in-Ok.call, answers, c.in-Ok.ensures.call) ]

pub returns-in-Err-Refused-clause-reply : goal.returns-in-Err-Refused-clause-reply
returns-in-Err-Refused-clause-reply g c =
    let fault = c.in-Err-Refused in
    inr (refused fault.why, (c.refuse.ensures.swept, c.refuse.ensures.reply ∙ ap refusal fault.why-is), c.read_request.ensures.refused fault.why (fault.is ∙ ap Err fault.field-0-is))

pub returns-in-Err-Memory-clause-reply : goal.returns-in-Err-Memory-clause-reply
returns-in-Err-Memory-clause-reply g c =
    let fault = c.in-Err-Memory in
    let refuse = c.refuse-in-Err-Memory in
    inl ((refuse.ensures.swept, refuse.ensures.reply), tells_map _ ReadsByMemory _ _ (λ b r is. inl is) (c.read_request.ensures.memory (fault.is ∙ ap Err fault.field-0-is)))
