use Rattle.std.proofs.Common.{Ok, List, refl, sym, subst, arith}
use Rattle.std.proofs.lemmas.List.{with_items_is}
use Rattle.ci_server_lookups.specs.Prelude.{IsKept, IsOffered}
use Rattle.ci_server_lookups.proofs.Loading.{says, so, loads_both}
use Rattle.ci_memory_queue.specs.declared.queue.Class.{Class}
use Rattle.ci_memory_queue.specs.declared.queue.Queue.{Queue}
use Rattle.ci_memory_queue.specs.Covers.{Covers, IsRight}
use Rattle.ci_memory_queue.proofs.Eligible.{still_covers, best_offered}
use Rattle.ci_memory_queue.proofs.Sorts.{sorted_then}
use Rattle.ci_memory_queue.proofs.offer.first_offer.Goals as goal

-- the best of the classes is the offer, and what is known then is remembered
pub returns : goal.returns
returns g c =
    let classes = c.best_of.new.classes in
    let notes = c.in_ok-notes.notes in
    let all = so g.T.Store.honest g.T.Store.holds g.T.Store.leaves
    (λ k found. IsRight c.args.queue.now k → Covers classes notes k.state k.board × (IsKept k → IsOffered k c.args.runner.now found)) _ _ _ (Ok tt) tt c.best_of.result c.in_ok-found.found c.in_ok-found.found refl c.in_ok-found.was
    (sorted_then g.T.Store.honest g.T.Store.holds g.T.Store.leaves (λ k (q : Queue). Covers q.classes.items q.notes k.state k.board) _ _ c.args.queue.now c.take.result _ _ _ c.known_or_filled.result _ c.sort_fresh.result notes
    c.take.ensures.value c.in_ok-classes.was c.in_ok-notes.was c.known_or_filled.ensures (λ k covers. covers) c.sort_fresh.ensures)
    (loads_both g.T.Store.honest g.T.Store.holds g.T.Store.leaves _ _ c.best_of.result c.best_of.ensures.keeps c.best_of.ensures.best)
    (λ k sorted its right.
    let is = sorted right in
    let sorted_in = c.sort_fresh.new.sorted.items in
    let given = c.as_mut_slice.result.now in (
      still_covers k sorted_in given classes notes c.as_mut_slice.ensures.value is.0 is.1 its.0,
      λ kept. best_offered k sorted_in given classes notes c.as_mut_slice.ensures.value is.0 is.1 its.0 kept c.args.runner.now c.in_ok-found.found (its.1 kept),
    )) in
    record {
      offered = says g.T.Store.honest g.T.Store.holds g.T.Store.leaves _ _ _ _ all (λ k found is both right. (both right).1);
      right = λ h k held right. subst (λ (cs : List Class). Covers cs notes k.state k.board) (sym (with_items_is c.sort_fresh.new.sorted classes (omega arith))) (all.answered h k held right).0;
    }
