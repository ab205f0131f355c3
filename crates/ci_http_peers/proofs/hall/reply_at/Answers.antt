use Rattle.std.proofs.Common.{◌≡◌, ◌∙◌, ap, Some, slice_set}
use Rattle.ci_http_peers.specs.declared.chair.Chair.{Chair}
use Rattle.ci_http_peers.proofs.Turns.{none_past, no_item, other_same, same_item}
use Rattle.ci_http_peers.proofs.hall.reply_at.Goals as goal

pub returns-in-Some-clause-others : goal.returns-in-Some-clause-others
returns-in-Some-clause-others g c = λ k other. other_same c.args.chairs.now c.args.place k _ other

pub returns-in-Some-clause-replies : goal.returns-in-Some-clause-replies
returns-in-Some-clause-replies g c =
    λ chair at.
    let same : c.in-Some.chair ≡ chair = same_item c.args.chairs.now c.args.place c.index-chairs-place.result _ chair c.in-Some.is at in
    ap (λ o. slice_set c.args.chairs.now c.args.place (Some o)) (c.reply.ensures ∙ ap (λ (o : Chair g.row.W.Denot). record o { bytes = c.args.reply; count = 0 }) same)

pub returns-in_default-clause-others : goal.returns-in_default-clause-others
returns-in_default-clause-others g c = λ k other. other_same c.args.chairs.now c.args.place k _ other

pub returns-in_default-clause-replies : goal.returns-in_default-clause-replies
returns-in_default-clause-replies g c = λ chair at. absurd (no_item c.args.chairs.now c.args.place c.index-chairs-place.result _ c.in_default.is at)

pub returns-else-place-chairs-clause-replies : goal.returns-else-place-chairs-clause-replies
returns-else-place-chairs-clause-replies g c = λ chair at. absurd (none_past c.args.chairs.now c.args.place _ c.if-place-chairs.false at)
