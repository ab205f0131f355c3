use Rattle.std.proofs.Common.{◌∙◌, refl, ap, subst}
use Rattle.ci_http_peers.specs.Answers.{text_of}
use Rattle.ci_http_peers.specs.Turns.{IsGone}
use Rattle.ci_http_peers.proofs.Turns.{found_at, same_there}
use Rattle.ci_http_peers.proofs.hall.answer_at.Goals as goal

pub returns-in-Some-Some-clause-none : goal.returns-in-Some-Some-clause-none
returns-in-Some-Some-clause-none g c =
    let found = c.in-Some-Some.ensures.lookup in
    let at = found_at c.args.chairs.now c.args.chairs.now c.args.place c.in-Some-Some.field-0.now _ refl found.3.0 found.1 c.in-Some-Some.field-0-is in
    λ gone. absurd (subst IsGone at gone)

pub returns-in-Some-Some-clause-answers : goal.returns-in-Some-Some-clause-answers
returns-in-Some-Some-clause-answers g c =
    let found = c.in-Some-Some.ensures.lookup in
    let here = found_at c.args.chairs.now c.args.chairs.now c.args.place c.in-Some-Some.field-0.now _ refl found.3.0 found.1 c.in-Some-Some.field-0-is in
    λ chair at. subst (λ l. g.A.Answerer.answers c.args.answerer.now l c.args.subject.now c.answer.new.subject (text_of c.answer.result))
    (c.request.ensures ∙ ap (λ o. o.bytes.items) (same_there _ _ chair here at)) c.answer.ensures
