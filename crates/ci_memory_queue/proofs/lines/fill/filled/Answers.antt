use Rattle.ci_server_lookups.proofs.Loading.{so}
use Rattle.ci_memory_queue.proofs.Covered.{all_noted}
use Rattle.ci_memory_queue.proofs.lines.fill.filled.Goals as goal

-- all are noted, and none is greater than the greatest of them
pub returns : goal.returns
returns g c =
    so g.T.Store.honest g.T.Store.holds g.T.Store.leaves _ _ _ _ c.note_with.result c.in_ok-note_with.field-0 c.note_with-2.result c.in_ok-note_with-2.field-0 _ c.in_ok-note_with.was c.in_ok-note_with-2.was c.note_with.ensures c.note_with-2.ensures
    (λ k created pending.
    all_noted k.state k.board c.new.result.items c.new-fresh.result.items c.note_with.new.jobs.items c.note_with-2.new.jobs.items c.notes_of.result created pending c.notes_of.ensures.fresh c.notes_of.ensures.newest)
