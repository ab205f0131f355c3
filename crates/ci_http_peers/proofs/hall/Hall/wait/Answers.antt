use Rattle.std.proofs.Common.{◌≡◌, ◌⊎◌, ◌∙◌, ◌++◌, ℕ, ◌≤◌, sym, ap, subst, length, take, drop, Some, None, slice_get}
use Rattle.ci_http_peers.specs.declared.peer.Among.TheVariants.{Writing}
use Rattle.ci_http_peers.specs.declared.peers.TheConstants.{MAX_REPLY_BYTES}
use Rattle.ci_http_peers.specs.Peers.{IsNoneOf, bytes_held}
use Rattle.ci_http_peers.specs.Turns.{IsHeard, StaysOrYields, cleared}
use Rattle.ci_http_peers.proofs.Turns.{cleared_heard, here_waits, stays_after, written_back, yields}
use Rattle.ci_http_peers.proofs.hall.Hall.wait.Goals as goal

pub returns-then-not-have_room : goal.returns-then-not-have_room
returns-then-not-have_room g c =
    let mid = c.listen.new.self in
    let made = c.make_room.new.seats in
    let seats = take mid.peers.len (made ++ drop (length made) mid.peers.items) in
    let chairs = take mid.chairs.len (c.clear.new.chairs ++ drop (length c.clear.new.chairs) mid.chairs.items) in
    let seats_back = written_back made mid.peers.items mid.peers.len (c.make_room.auto.seats ∙ c.deref_mut.ensures.len) in
    let chairs_back = written_back c.clear.new.chairs mid.chairs.items mid.chairs.len (c.clear.auto.chairs ∙ c.deref_mut-then-not-have_room.ensures.len) in
    let others = subst (λ l. (j : ℕ) → IsNoneOf Writing (slice_get l j) → slice_get made j ≡ slice_get l j) c.deref_mut.ensures.value c.make_room.ensures.others in
    let only = subst (λ l. (j : ℕ) → (slice_get made j ≡ slice_get l j) ⊎ (slice_get made j ≡ Some None)) c.deref_mut.ensures.value c.make_room.ensures.only_go in
    let shut = chairs_back ∙ c.clear.ensures ∙ ap (λ s. cleared s c.deref_mut-then-not-have_room.result.now) (c.as_slice-then-not-have_room.ensures.value ∙ seats_back)
    ∙ ap (cleared made) c.deref_mut-then-not-have_room.ensures.value in
    record {
      others = λ k other.
          let yielded : StaysOrYields mid.peers.items mid.chairs.items made (cleared made mid.chairs.items) k = yields mid.peers.items made mid.chairs.items k (others k) (only k) in
          stays_after c.args.self.now.peers.items c.args.self.now.chairs.items mid.peers.items mid.chairs.items seats chairs k (c.listen.ensures.peers k other) (c.listen.ensures.chairs k other)
          (subst (λ l. StaysOrYields mid.peers.items mid.chairs.items l chairs k) (sym seats_back) (subst (λ l. StaysOrYields mid.peers.items mid.chairs.items made l k) (sym shut) yielded));
      here = here_waits c.args.self.now.peers.items mid.peers.items made seats c.args.place c.listen.ensures.here (only c.args.place) seats_back;
      heard = subst (λ l. IsHeard (slice_get l c.args.place)) (sym shut) (cleared_heard made mid.chairs.items c.args.place c.listen.ensures.heard);
      room = λ is. subst (λ l. bytes_held l ≤ MAX_REPLY_BYTES) (sym seats_back) c.make_room.ensures.room;
      patience = c.listen.ensures.patience;
    }
