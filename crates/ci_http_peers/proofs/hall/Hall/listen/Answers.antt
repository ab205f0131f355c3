use Rattle.std.proofs.Common.{◌∙◌, ◌++◌, drop, inl, inr, length, refl, subst, sym, take, None, slice_get}
use Rattle.ci_http_peers.specs.Turns.{IsHeard}
use Rattle.ci_http_peers.proofs.Turns.{back_same_but, gone_at, same_but_set, same_but_twice, unheard_none, written_back}
use Rattle.ci_http_peers.proofs.hall.Hall.listen.Goals as goal

pub returns-then-not-listen_at : goal.returns-then-not-listen_at
returns-then-not-listen_at g c =
    let chairs = c.args.self.now.chairs in
    let mid = take chairs.len (c.listen_at.new.chairs ++ drop (length c.listen_at.new.chairs) chairs.items) in
    let left = c.leave.ensures in
    record {
      peers = same_but_set c.args.self.now.peers.items c.leave.new.self.peers.items c.args.place None left.peers;
      chairs = same_but_twice c.args.place chairs.items mid c.leave.new.self.chairs.items
          (back_same_but chairs.items c.deref_mut.result.now c.listen_at.new.chairs chairs.len c.args.place c.listen_at.auto.chairs c.deref_mut.ensures.len c.deref_mut.ensures.value c.listen_at.ensures.others)
          (same_but_set mid c.leave.new.self.chairs.items c.args.place None left.chairs);
      here = inl (gone_at c.args.self.now.peers.items c.leave.new.self.peers.items c.args.place left.peers);
      heard = unheard_none _ (gone_at _ c.leave.new.self.chairs.items c.args.place left.chairs);
      patience = left.patience;
    }

pub returns-else-not-listen_at : goal.returns-else-not-listen_at
returns-else-not-listen_at g c =
    let chairs = c.args.self.now.chairs in
    let back = written_back c.listen_at.new.chairs chairs.items chairs.len (c.listen_at.auto.chairs ∙ c.deref_mut.ensures.len) in
    record {
      peers = λ k other. refl;
      chairs = back_same_but chairs.items c.deref_mut.result.now c.listen_at.new.chairs chairs.len c.args.place c.listen_at.auto.chairs c.deref_mut.ensures.len c.deref_mut.ensures.value c.listen_at.ensures.others;
      here = inr refl;
      heard = subst (λ l. IsHeard (slice_get l c.args.place)) (sym back) (c.listen_at.ensures.heard c.if-not-listen_at.false);
      patience = refl;
    }
