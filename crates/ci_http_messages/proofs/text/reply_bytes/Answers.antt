use Rattle.std.proofs.Common.{◌≡◌, ◌<◌, ◌^◌, ◌++◌, length, sym, subst}
use Rattle.ci_machine.specs.Prelude.{body_text}
use Rattle.ci_http_messages.specs.Prelude.{reply_text, IsResponse}
use Rattle.ci_http_messages.proofs.Responses.{is_response}
use Rattle.ci_http_messages.proofs.text.reply_bytes.Goals as goal

pub returns-clause-response : goal.returns-clause-response
returns-clause-response c =
    let r = c.args.reply.now in
    let body = c.body-body.ensures in
    let size = subst (λ b. length b < 2 ^ 64) body c.body-body.type_inv.0 in
    let bytes : reply_text r ≡ c.head_of-head.result.items ++ c.body-body.result.now = λ i. sym c.head_of-head.ensures.text i ++ sym body i in
    subst (λ b. IsResponse (c.head_of-head.result.items ++ c.body-body.result.now) r.status b) (sym body)
    (subst (λ t. IsResponse t r.status (body_text r)) bytes (is_response r c.head_of-head.ensures.size size))
