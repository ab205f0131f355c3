use Rattle.std.proofs.Common.{subst, sym}
use Rattle.std.proofs.lemmas.Option.{slice_get-get_or}
use Rattle.ci_http_peers.specs.Turns.{IsHeard}
use Rattle.ci_http_peers.proofs.Turns.{here_set, other_same}
use Rattle.ci_http_peers.proofs.hall.listen_at.Goals as goal

pub returns-then-place-chairs-clause-others : goal.returns-then-place-chairs-clause-others
returns-then-place-chairs-clause-others g c = λ k other. other_same c.args.chairs.now c.args.place k _ other

pub returns-then-place-chairs-clause-heard : goal.returns-then-place-chairs-clause-heard
returns-then-place-chairs-clause-heard g c =
    let at = slice_get-get_or c.args.chairs.now c.args.place c.index-chairs-place.result c.if-place-chairs.true in
    λ is. subst IsHeard (sym (here_set c.args.chairs.now c.args.place c.listen_one.new.chair _ at)) (c.listen_one.ensures.heard is)
