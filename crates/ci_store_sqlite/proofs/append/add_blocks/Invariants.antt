use Rattle.std.proofs.Common.{◌≡◌, length, IsTrue}
use Rattle.ci_store.specs.Prelude.{HasCleanDisk, KeepsCommit, Survives, state}
use Rattle.ci_store_sqlite.proofs.Appending.{AddsSoFar}
use Rattle.ci_store_sqlite.proofs.append.add_blocks.Given as goal

abbrev pub invariant-loop-rest : goal.invariant-loop-rest
invariant-loop-rest g l =
    let old = l.fn.tx.conn.now in
    let now = l.tx.conn.now in
    (l.tx.conn.ghost_name ≡ l.fn.tx.conn.ghost_name)
    × (HasCleanDisk (state g.S.Store now) → IsTrue old.in_transaction → AddsSoFar g.S.Store l.attempt l.first l.bytes l.seq l.rest old now)
    × (HasCleanDisk (state g.S.Store now) → IsTrue old.in_transaction → KeepsCommit (state g.S.Store old) (state g.S.Store now))
    × Survives (state g.S.Store old) (state g.S.Store now) (λ _. ⊥)

abbrev pub decreases-loop-rest : goal.decreases-loop-rest
decreases-loop-rest g l = length l.rest
