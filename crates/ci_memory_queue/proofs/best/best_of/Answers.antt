use Rattle.std.proofs.Common.{Ok, ◌<◌, length, slice_index_or, refl, arith}
use Rattle.std.proofs.lemmas.List.{get_or_default}
use Rattle.ci_memory_queue.specs.declared.queue.Class.{Class}
use Rattle.ci_server_lookups.proofs.Loading.{so, loads_both}
use Rattle.ci_memory_queue.proofs.Leasts.{keeps_more, best_more}
use Rattle.ci_memory_queue.proofs.best.best_of.Goals as goal

-- with one more class
pub loop-class-preserved : goal.loop-class-preserved
loop-class-preserved g c =
    let classes = c.loop-class.classes in
    let i = c.loop-class.class-index in
    let old : Class = slice_index_or classes i c.class-item.result in
    let new : Class = c.better_of.new.class in
    let within : i < length classes = omega (arith, c.loop-class.auto.classes, c.loop-class-test.true) in
    so g.T.Store.honest g.T.Store.holds g.T.Store.leaves _ _ _ _ (Ok tt) tt c.better_of.result c.in_ok-best.best _ refl c.in_ok-best.was c.loop-class.invariant
    (loads_both g.T.Store.honest g.T.Store.holds g.T.Store.leaves _ _ c.better_of.result c.better_of.ensures.keeps c.better_of.ensures.better)
    (λ k before its. (
      (λ asks job pending asked w. keeps_more k classes i old new within (get_or_default classes i c.class-item.result old within) c.better_of.ensures.asks its.0 asks job pending asked (before.0 asks job pending asked w)),
      (λ kept. best_more k c.args.runner.now classes i new c.loop-class.best c.in_ok-best.best within (before.1 kept) (its.1 kept)),
    ))
