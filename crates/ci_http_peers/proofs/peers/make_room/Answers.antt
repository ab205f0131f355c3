use Rattle.std.proofs.Common.{◌≡◌, ◌⊎◌, ◌<◌, ◌≤◌, ◌∙◌, sym, ap, subst, arith, Some, None, slice_get}
use Rattle.std.specs.List.{sum_by}
use Rattle.ci_http_peers.specs.declared.peer.Among.TheVariants.{Writing}
use Rattle.ci_http_peers.specs.declared.peers.TheConstants.{MAX_REPLY_BYTES}
use Rattle.ci_http_peers.specs.Peers.{IsNoneOf, bytes_held}
use Rattle.ci_http_peers.proofs.Rooms.{seat_count, fewer_sit, others_sit, only_go}
use Rattle.ci_http_peers.proofs.peers.make_room.Goals as goal

pub loop-place-smaller : goal.loop-place-smaller
loop-place-smaller c =
    let (more, (peer, at, is, soonest)) = c.in-Some.ensures in
    subst (λ l. sum_by seat_count l < sum_by seat_count c.loop-place.seats) (sym c.put.ensures) (fewer_sit c.loop-place.seats c.in-Some.place peer at)

pub loop-place-preserved : goal.loop-place-preserved
loop-place-preserved c =
    let (more, (peer, at, is, soonest)) = c.in-Some.ensures in
    let seats = c.loop-place.seats in
    let (others, stays, only) = c.loop-place.invariant in (
      (λ k none.
          let same = others k none in
          ap (λ l. slice_get l k) c.put.ensures ∙ others_sit seats c.in-Some.place peer k at is (subst (IsNoneOf Writing) (sym same) none) ∙ same),
      (λ room.
          let less : bytes_held seats ≤ MAX_REPLY_BYTES = subst (λ l. bytes_held l ≤ MAX_REPLY_BYTES) (sym (stays room)) room in
          absurd (omega (arith, less, more))),
      (λ k. subst (λ l. (slice_get l k ≡ slice_get c.args.seats.now k) ⊎ (slice_get l k ≡ Some None)) (sym c.put.ensures) (only_go seats c.args.seats.now c.in-Some.place peer k at (only k))),
    )
