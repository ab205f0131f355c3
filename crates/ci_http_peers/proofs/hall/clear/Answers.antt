use Rattle.std.proofs.Common.{◌∙◌, ap, sym}
use Rattle.ci_http_peers.specs.Turns.{cleared_at}
use Rattle.ci_http_peers.proofs.Turns.{cleared_next}
use Rattle.ci_http_peers.proofs.hall.clear.Goals as goal

pub loop-place-preserved : goal.loop-place-preserved
loop-place-preserved g c =
    c.clear_one.ensures ∙ ap (cleared_at _ c.loop-place.place) c.loop-place.invariant ∙ sym (cleared_next c.args.peers.now c.args.chairs.now c.loop-place.place _ c.loop-place-test.true)
