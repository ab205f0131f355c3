use Rattle.std.proofs.Common.{[], sym, subst}
use Rattle.ci_store.specs.Prelude.{IsNotRun, state}
use Rattle.ci_store_sqlite.specs.Prelude.{SELECT_META, Blames, IsFailure}
use Rattle.ci_store_sqlite.proofs.Openings.{not_understood, not_run_same, blames_none, is_failure}
use Rattle.ci_store_sqlite.proofs.tables.understands.Goals as goal
use Rattle.ci_store_sqlite.proofs.tables.understands.Goals.{in-Ok, in-Err-SqlInputError, in-Err}

pub returns-clause-blamed : goal.returns-clause-blamed
returns-clause-blamed g c clean =
    let old = state g.S.Store c.args.conn.now in
    let new = state g.S.Store c.prepare.new.self in
    elim c.match-prepare.branch [
      | in-Ok w ↦ rw w.result-is tt
      | in-Err-SqlInputError w ↦ rw w.result-is (not_understood [] old new w.in-Err-SqlInputError.field-0-0 (subst (IsNotRun old new SELECT_META.now []) w.in-Err-SqlInputError.field-0-is (w.in-Err-SqlInputError.ensures.err clean [])))
      | in-Err w ↦ rw w.result-is (subst (λ fault. Blames fault old.now) (sym w.from-in-Err.ensures) (blames_none w.from.result old.now))
    ]

pub returns-clause-unchanged : goal.returns-clause-unchanged
returns-clause-unchanged g c clean =
    let old = state g.S.Store c.args.conn.now in
    let new = state g.S.Store c.prepare.new.self in
    elim c.match-prepare.branch [
      | in-Ok w ↦ rw w.result-is tt
      | in-Err-SqlInputError w ↦ rw w.result-is (λ foreign. not_run_same [] old new w.in-Err-SqlInputError.field-0-0 (subst (IsNotRun old new SELECT_META.now []) w.in-Err-SqlInputError.field-0-is (w.in-Err-SqlInputError.ensures.err clean [])))
      | in-Err w ↦ rw w.result-is (λ foreign. absurd (foreign (subst IsFailure (sym w.from-in-Err.ensures) (is_failure w.from.result))))
    ]
