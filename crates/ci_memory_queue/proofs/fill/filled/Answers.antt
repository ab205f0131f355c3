use Rattle.ci_server_lookups.proofs.Loading.{gives}
use Rattle.ci_memory_queue.proofs.Filling.{pending_noted}
use Rattle.ci_memory_queue.proofs.fill.filled.Goals as goal

-- all are noted, and none is greater than the greatest of them
pub returns : goal.returns
returns g c =
    gives g.T.Store.honest g.T.Store.holds g.T.Store.leaves _ _ _ c.note_with.result c.in_ok-note_with.field-0 _ c.in_ok-note_with.was c.note_with.ensures
    (λ k all. pending_noted k.state k.board c.new.result.items c.new-fresh.result.items c.note_with.new.jobs.items c.notes_of.result all c.notes_of.ensures.fresh c.notes_of.ensures.newest)
