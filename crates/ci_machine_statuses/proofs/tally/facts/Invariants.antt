use Rattle.std.proofs.Common.{◌≡◌, ℕ, length, map, take}
use Rattle.ci_machine_statuses.specs.declared.tally.Tally.{Tally}
use Rattle.ci_machine_statuses.specs.Lookups.{facts_by}
use Rattle.ci_machine_statuses.proofs.tally.facts.Given as goal

-- the facts of the jobs so far
abbrev pub invariant-loop-j : goal.invariant-loop-j
invariant-loop-j l =
    record {
      long : length l.facts.items ≡ l.j;
      are : (tally : ℕ → Tally) → l.tallies ≡ map (λ j. tally j.id) l.jobs → l.facts.items ≡ map (λ j. facts_by (tally j.id) j) (take l.j l.jobs);
    }
