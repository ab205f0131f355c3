use Rattle.std.proofs.Common.{drop, Ok}
use Rattle.ci_store.specs.Prelude.{LoadsBy}
use Rattle.ci_memory_queue.specs.Notes.{AreKnown}
use Rattle.ci_memory_queue.proofs.sorting.sort_fresh.Given as goal

-- those that aren't sorted in yet are noted still
abbrev pub invariant-loop-job : goal.invariant-loop-job
invariant-loop-job g l =
    LoadsBy {A = Unit {0}} g.T.Store.honest g.T.Store.holds g.T.Store.leaves l.fn.store l.store (Ok tt)
    (λ k _. AreKnown (g.S.Sorts.counts k) (g.S.Sorts.IsPlaced k l.fn.sorted.items) l.fn.notes
    → AreKnown (g.S.Sorts.counts k) (g.S.Sorts.IsPlaced k l.sorted.items) (record { fresh = drop l.job-index l.job-items; newest = l.newest; newest_pipeline = l.newest_pipeline }))
