-- What a message asks for, by what was made of it at its route.
use Rattle.std.proofs.Common.{◌≡◌, ℕ, List, sym, ap, ◌∙◌, inl, inr, ◌⊎◌, false, if◌then◌else◌, Some, None, option_map, ok_or, Ok, Err}
use Rattle.ci_machine.specs.declared.request.Request.{Request}
use Rattle.ci_machine.specs.declared.reply.Code.{Code}
use Rattle.ci_machine.specs.declared.reply.Code.TheVariants.{M16, H7}
use Rattle.ci_machine.specs.Prelude.{refusal}
use Rattle.ci_http_messages.specs.Prelude.{body_of, wanted, asks, Operation, IsWhyNot, Demand, Message, request_by, is_health, asked_at, request_as, request_in, AsksMemoryBy}
use Rattle.ci_http_messages.specs.Prelude.{AsksMemory, path_of}

abbrev AsksFor : Operation (List ℕ) → Message → Type 0
AsksFor op m = asked_at m.method (path_of m.target) ≡ asks (wanted op)

-- who doesn't ask for the server's health asks for the request that is made, if one is
asks_other : (m : Message) (op : Operation (List ℕ)) → AsksFor op m → is_health op ≡ false
    → request_in m ≡ ok_or (option_map Demand.Request (request_by (wanted op) m)) (refusal H7)
asks_other m op e other =
    ap (λ a. request_as a m) e ∙ ap (λ b. if b then Ok Demand.Health else ok_or (option_map Demand.Request (request_by (wanted op) m)) (refusal H7)) other

pub asks_request : (m : Message) (op : Operation (List ℕ)) (request : Request) → AsksFor op m → is_health op ≡ false → request_by (wanted op) m ≡ Some request
    → request_in m ≡ Ok (Demand.Request request)
asks_request m op request e other is = asks_other m op e other ∙ ap (λ o. ok_or (option_map Demand.Request o) (refusal H7)) is

asks_wrongly : (m : Message) (op : Operation (List ℕ)) → AsksFor op m → is_health op ≡ false → request_by (wanted op) m ≡ None → request_in m ≡ Err (refusal H7)
asks_wrongly m op e other none = asks_other m op e other ∙ ap (λ o. ok_or (option_map Demand.Request o) (refusal H7)) none

pub why_not : (m : Message) (op : Operation (List ℕ)) (why : Code) → AsksFor op m → is_health op ≡ false
    → IsWhyNot (AsksMemoryBy (body_of op) (wanted op) m) why (request_by (wanted op) m)
    → ((refusal why ≡ refusal M16) × AsksMemory m) ⊎ (request_in m ≡ Err (refusal why))
why_not m op why e other (inl (is, memory)) = inl (ap refusal is, (wanted op, e, memory))
why_not m op why e other (inr (is, none)) = inr (asks_wrongly m op e other none ∙ ap (λ w. Err (refusal w)) (sym is))
