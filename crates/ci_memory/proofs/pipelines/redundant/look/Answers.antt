use Rattle.std.proofs.Common.{Ok, drop, ◌+◌, List, ℕ, refl, subst}
use Rattle.std.proofs.lemmas.List.{at_drop_more}
use Rattle.ci_server_lookups.proofs.Loading.{so}
use Rattle.ci_memory.specs.Looks.{IsLooked}
use Rattle.ci_memory.proofs.pipelines.redundant.look.Goals as goal

-- one more is looked at
pub loop-number-preserved : goal.loop-number-preserved
loop-number-preserved g c =
    let items = c.as_slice-number-items.result.now in
    let i = c.loop-number.number-index in
    so g.T.Store.honest g.T.Store.holds g.T.Store.leaves _ _ _ _ (Ok tt) tt c.look_at.result c.in_ok-seen.seen _ refl c.in_ok-seen.was c.loop-number.invariant c.look_at.ensures
    (λ k before seen right.
    c.in_ok-looked.ensures k (drop (i + 1) items) seen
    (subst (λ (ns : List ℕ). IsLooked k ns c.loop-number.looked) (at_drop_more (λ (l : List ℕ). l) items i 0 c.loop-number-test.true) (before right)))
