use Rattle.std.proofs.Common.{◌≡◌, map, take}
use Rattle.ci_store.specs.Prelude.{Put, Record}
use Rattle.ci_store_sqlite.proofs.commit.pairs_of.Given as goal

abbrev pub invariant-loop-change : goal.invariant-loop-change
invariant-loop-change l = take l.change-index l.changes ≡ map (λ n. Put (Record.Need n)) l.pairs.items
