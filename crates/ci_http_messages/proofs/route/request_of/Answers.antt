use Rattle.std.proofs.Common.{◌≡◌, ◌⊎◌, ◌∙◌, sym, subst, Err}
use Rattle.ci_machine.specs.declared.reply.Code.TheVariants.{M16}
use Rattle.ci_machine.specs.Prelude.{refusal}
use Rattle.ci_http_messages.specs.Prelude.{map_key, request_in, AsksMemory}
use Rattle.ci_http_messages.proofs.Requests.{asks_request, why_not}
use Rattle.ci_http_messages.proofs.route.request_of.Goals as goal

pub returns-in-Ok-clause-ok : goal.returns-in-Ok-clause-ok
returns-in-Ok-clause-ok c =
    let operation = map_key (λ key. key.now) c.in-Found.operation in
    asks_request c.args.call.now operation c.in-Ok.request c.in-Found.ensures (sym c.is_health.ensures ∙ c.if-is_health.false) c.in-Ok.ensures

pub returns-in-Err-clause-err : goal.returns-in-Err-clause-err
returns-in-Err-clause-err c =
    let call = c.args.call.now in
    let operation = map_key (λ key. key.now) c.in-Found.operation in
    subst (λ reply. ((reply ≡ refusal M16) × AsksMemory call) ⊎ (request_in call ≡ Err reply)) (sym c.refusal.ensures)
    (why_not call operation c.in-Err.why c.in-Found.ensures (sym c.is_health.ensures ∙ c.if-is_health.false) c.in-Err.ensures)
