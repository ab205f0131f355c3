use Rattle.std.proofs.Common.{Some}
use Rattle.ci_http_peers.proofs.Turns.{back_set}
use Rattle.ci_http_peers.proofs.hall.Hall.seat.Goals as goal

pub returns-clause-peers : goal.returns-clause-peers
returns-clause-peers g c =
    let peers = c.args.self.now.peers in
    back_set peers.items c.deref_mut.result.now c.put.new.table peers.len c.args.place (Some c.args.peer) c.put.auto.table c.deref_mut.ensures.len c.deref_mut.ensures.value c.put.ensures

pub returns-clause-chairs : goal.returns-clause-chairs
returns-clause-chairs g c =
    let chairs = c.args.self.now.chairs in
    back_set chairs.items c.deref_mut-2.result.now c.put-2.new.table chairs.len c.args.place (Some c.args.chair) c.put-2.auto.table c.deref_mut-2.ensures.len c.deref_mut-2.ensures.value c.put-2.ensures
