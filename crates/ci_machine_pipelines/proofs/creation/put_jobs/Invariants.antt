use Rattle.std.proofs.Common.{◌≡◌, ◌++◌, map, length}
use Rattle.std.specs.Vec.Iter.{into_iter_items, into_iter_len}
use Rattle.ci_machine_steps.specs.Prelude.{Put, Record}
use Rattle.ci_machine_pipelines.proofs.creation.put_jobs.Given as goal

-- the changes so far, and then those of the records that are left, are those of all
abbrev pub invariant-loop-job : goal.invariant-loop-job
invariant-loop-job l = record {
  all : l.changes.items ++ map (λ j. Put (Record.Job j)) (into_iter_items l.job-iterator) ≡ l.fn.changes.items ++ map (λ j. Put (Record.Job j)) (into_iter_items l.initial.job-iterator);
  count : into_iter_len l.job-iterator ≡ length (into_iter_items l.job-iterator);
}
