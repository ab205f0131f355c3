use Rattle.std.proofs.Common.{◌≡◌, ◌++◌, map, length}
use Rattle.std.specs.Vec.Iter.{into_iter_items, into_iter_len}
use Rattle.ci_machine_steps.specs.Prelude.{Put, Record}
use Rattle.ci_machine_pipelines.proofs.creation.put_variables.Given as goal

-- the changes so far, and then those of the records that are left, are those of all
abbrev pub invariant-loop-variable : goal.invariant-loop-variable
invariant-loop-variable l = record {
  all : l.changes.items ++ map (λ v. Put (Record.JobVariable v)) (into_iter_items l.variable-iterator) ≡ l.fn.changes.items ++ map (λ v. Put (Record.JobVariable v)) (into_iter_items l.initial.variable-iterator);
  count : into_iter_len l.variable-iterator ≡ length (into_iter_items l.variable-iterator);
}
