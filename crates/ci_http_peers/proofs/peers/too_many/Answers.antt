use Rattle.std.proofs.Common.{◌∙◌, ◌<◌, ◌≤◌, sym, arith}
use Rattle.std.proofs.lemmas.Bool.{true≢false}
use Rattle.ci_http_peers.specs.declared.peers.TheConstants.{MAX_REPLY_BYTES}
use Rattle.ci_http_peers.specs.Peers.{bytes_held}
use Rattle.ci_http_peers.proofs.Rooms.{too_many}
use Rattle.ci_http_peers.proofs.peers.too_many.Goals as goal

pub returns : goal.returns
returns c =
    let held = bytes_held c.args.seats.now in
    let full : held ≤ MAX_REPLY_BYTES → ⊥ = λ less. true≢false (sym (c.have_room.ensures.1 less) ∙ c.if-have_room.false) in
    let more : MAX_REPLY_BYTES < held = omega (arith, full) in
    too_many c.args.seats.now c.soonest.result more c.soonest.ensures
