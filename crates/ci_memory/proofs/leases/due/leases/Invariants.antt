use Rattle.std.proofs.Common.{◌≡◌, ◌++◌, map, length, Ok}
use Rattle.std.specs.Vec.Iter.{into_iter_items, into_iter_len}
use Rattle.ci_machine_steps.specs.Prelude.{lease_of}
use Rattle.ci_store.specs.Prelude.{LoadsBy}
use Rattle.ci_memory.proofs.leases.due.leases.Given as goal

-- the leases so far, and then those of the attempts that are left, are those of all
abbrev pub invariant-loop-attempt : goal.invariant-loop-attempt
invariant-loop-attempt g l = record {
  loads : LoadsBy {A = Unit {0}} g.T.Store.honest g.T.Store.holds g.T.Store.leaves l.fn.store l.store (Ok tt)
      (λ k _. l.leases.items ++ map (lease_of k.state) (into_iter_items l.attempt-iterator) ≡ map (lease_of k.state) (into_iter_items l.initial.attempt-iterator));
  count : into_iter_len l.attempt-iterator ≡ length (into_iter_items l.attempt-iterator);
}
