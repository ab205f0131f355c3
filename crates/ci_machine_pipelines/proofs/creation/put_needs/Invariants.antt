use Rattle.std.proofs.Common.{◌≡◌, ◌++◌, map, length}
use Rattle.std.specs.Vec.Iter.{into_iter_items, into_iter_len}
use Rattle.ci_machine_steps.specs.Prelude.{Put, Record}
use Rattle.ci_machine_pipelines.proofs.creation.put_needs.Given as goal

-- the changes so far, and then those of the records that are left, are those of all
abbrev pub invariant-loop-need : goal.invariant-loop-need
invariant-loop-need l = record {
  all : l.changes.items ++ map (λ w. Put (Record.Need w)) (into_iter_items l.need-iterator) ≡ l.fn.changes.items ++ map (λ w. Put (Record.Need w)) (into_iter_items l.initial.need-iterator);
  count : into_iter_len l.need-iterator ≡ length (into_iter_items l.need-iterator);
}
