use Rattle.std.proofs.Common.{◌≡◌, length, map, take, nat_cmp}
use Rattle.std.specs.List.Sorted.{IsStrictlySortedBy}
use Rattle.ci_machine_steps.specs.Prelude.{row_for}
use Rattle.ci_machine_statuses.proofs.load.rows_of.Given as goal

-- the rows of the numbers so far
abbrev pub invariant-loop-n : goal.invariant-loop-n
invariant-loop-n l =
    record {
      jobs : l.jobs.items ≡ map (λ r. r.job) l.rows;
      long : length l.found.items ≡ l.n-index;
      are : IsStrictlySortedBy nat_cmp (map (λ r. r.job) l.rows) → l.found.items ≡ map (row_for l.rows) (take l.n-index l.numbers);
    }
