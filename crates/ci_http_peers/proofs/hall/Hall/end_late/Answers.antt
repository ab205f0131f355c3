use Rattle.std.proofs.Common.{◌∙◌, ap, map, refl}
use Rattle.ci_http_peers.specs.Peers.{kept}
use Rattle.ci_http_peers.specs.Turns.{cleared}
use Rattle.ci_http_peers.proofs.Turns.{written_back}
use Rattle.ci_http_peers.proofs.hall.Hall.end_late.Goals as goal

pub returns : goal.returns
returns g c =
    let peers = c.args.self.now.peers in
    let chairs = c.args.self.now.chairs in
    record {
      peers = written_back c.end_late.new.seats peers.items peers.len (c.end_late.auto.seats ∙ c.deref_mut.ensures.len) ∙ c.end_late.ensures ∙ ap (map (kept c.args.now)) c.deref_mut.ensures.value;
      chairs = written_back c.clear.new.chairs chairs.items chairs.len (c.clear.auto.chairs ∙ c.deref_mut-2.ensures.len) ∙ c.clear.ensures
          ∙ ap (λ s. cleared s c.deref_mut-2.result.now) c.as_slice.ensures.value ∙ ap (cleared _) c.deref_mut-2.ensures.value;
      patience = refl;
    }
