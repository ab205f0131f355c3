use Rattle.std.proofs.Common.{Ok, List, ℕ, refl, sym, subst, ◌∙◌}
use Rattle.std.proofs.lemmas.List.{at_drop_all}
use Rattle.ci_server_lookups.proofs.Loading.{so, gives}
use Rattle.ci_memory_queue.specs.Notes.{AreKnown}
use Rattle.ci_memory_queue.proofs.Sorts.{sort_more}
use Rattle.ci_memory_queue.proofs.sorting.sort_fresh.Goals as goal

-- one more is sorted in
pub loop-job-preserved : goal.loop-job-preserved
loop-job-preserved g c =
    so g.T.Store.honest g.T.Store.holds g.T.Store.leaves _ _ _ _ (Ok tt) tt c.sort_in.result c.in_ok-sort_in.field-0 _ refl c.in_ok-sort_in.was c.loop-job.invariant c.sort_in.ensures.sorted
    (λ k before its known.
    sort_more (g.S.Sorts.counts k) (g.S.Sorts.IsPlaced k c.loop-job.sorted.items) (g.S.Sorts.IsPlaced k c.sort_in.new.sorted.items) c.as_slice-job-items.result.now c.loop-job.job-index _ c.notes.inside.newest c.loop-job.newest_pipeline c.sort_in.new.newest_pipeline
    c.loop-job-test.true (c.in_ok-sort_in.ensures.keeps k) its (before known))

-- all are
pub returns : goal.returns
returns g c =
    gives g.T.Store.honest g.T.Store.holds g.T.Store.leaves _ _ _ (Ok tt) tt _ refl c.loop-job.invariant
    (λ k before known. (
      c.clear.ensures.items,
      subst (λ (fresh : List ℕ). AreKnown (g.S.Sorts.counts k) (g.S.Sorts.IsPlaced k c.loop-job.sorted.items) (record { fresh = fresh; newest = c.notes.inside.newest; newest_pipeline = c.loop-job.newest_pipeline }))
          (at_drop_all (λ (ys : List ℕ). ys) c.as_slice-job-items.result.now c.loop-job.job-index c.loop-job-test.false ∙ sym c.clear.ensures.items)
          (before known),
    ))
