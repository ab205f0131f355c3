use Rattle.std.proofs.Common.{rules, ◌≡◌, arith}
use Rattle.ci_store.specs.Prelude.{HasCleanDisk, state, cleared, written}
use Rattle.ci_store_sqlite.specs.Prelude.{CommitsAll}
use Rattle.ci_store_sqlite.proofs.Committing.{survives_all, is_back, is_done_all, commits_all}
use Rattle.ci_store_sqlite.proofs.commit.attempt.Goals as goal

pub returns-in-Err-clause-survives : goal.returns-in-Err-clause-survives
returns-in-Err-clause-survives g c =
    let old = c.args.conn.now in
    survives_all g.S.Store old c.transaction-tx.result.conn.now c.write_all.new.tx.conn.now c.drop-tx.new.self.0 _ (search rules) c.transaction-tx.ensures.begun (CommitsAll g.S.Store (λ k. written c.args.changes.now c.args.rows.now c.args.indexes.now (cleared c.args.jobs.now k)) old) (λ _. ⊥) c.write_all.ensures.survives c.drop-tx.ensures.survives
    (λ _ db none. absurd none)

pub returns-in-Err-clause-quiet : goal.returns-in-Err-clause-quiet
returns-in-Err-clause-quiet g c _ =
    survives_all g.S.Store c.args.conn.now c.transaction-tx.result.conn.now c.write_all.new.tx.conn.now c.drop-tx.new.self.0 _ (search rules) c.transaction-tx.ensures.begun (λ _. ⊥) (λ _. ⊥) c.write_all.ensures.survives c.drop-tx.ensures.survives (λ _ db none. none)

pub returns-in-Err-clause-back : goal.returns-in-Err-clause-back
returns-in-Err-clause-back g c clean _ =
    let ended = c.drop-tx.new.self.0 in
    let late : HasCleanDisk (state g.S.Store ended) = search rules in
    let early : HasCleanDisk (state g.S.Store c.write_all.new.tx.conn.now) = omega (arith, late, c.drop-tx.ensures.survives.clean) in
    is_back g.S.Store c.args.conn.now c.transaction-tx.result.conn.now c.write_all.new.tx.conn.now ended _ (search rules) c.transaction-tx.ensures.begun (c.write_all.ensures.kept early (search rules)) (c.drop-tx.ensures.undone late)

pub returns-in-Ok-clause-survives : goal.returns-in-Ok-clause-survives
returns-in-Ok-clause-survives g c =
    let old = c.args.conn.now in
    let made = c.write_all.new.tx.conn.now in
    survives_all g.S.Store old c.transaction-tx.result.conn.now made c.commit.new.self.0 _ (search rules) c.transaction-tx.ensures.begun (CommitsAll g.S.Store (λ k. written c.args.changes.now c.args.rows.now c.args.indexes.now (cleared c.args.jobs.now k)) old) (λ db. db ≡ (state g.S.Store made).now.trees) c.write_all.ensures.survives c.commit.ensures.survives
    (λ late db is. let early : HasCleanDisk (state g.S.Store made) = omega (arith, late, c.commit.ensures.survives.clean) in commits_all g.S.Store old c.transaction-tx.result.conn.now made c.transaction-tx.ensures.begun (λ k. written c.args.changes.now c.args.rows.now c.args.indexes.now (cleared c.args.jobs.now k)) db (c.in_default.ensures.makes early (search rules)) is)

pub returns-in-Ok-clause-done : goal.returns-in-Ok-clause-done
returns-in-Ok-clause-done g c clean _ =
    let ended = c.commit.new.self.0 in
    let late : HasCleanDisk (state g.S.Store ended) = search rules in
    let early : HasCleanDisk (state g.S.Store c.write_all.new.tx.conn.now) = omega (arith, late, c.commit.ensures.survives.clean) in
    is_done_all g.S.Store c.args.conn.now c.transaction-tx.result.conn.now c.write_all.new.tx.conn.now ended _ (search rules) c.transaction-tx.ensures.begun (λ k. written c.args.changes.now c.args.rows.now c.args.indexes.now (cleared c.args.jobs.now k)) (c.in_default.ensures.makes early (search rules)) (c.in-Ok.ensures.ok late).1

pub returns-in-Err-commit-clause-survives : goal.returns-in-Err-commit-clause-survives
returns-in-Err-commit-clause-survives g c =
    let old = c.args.conn.now in
    let made = c.write_all.new.tx.conn.now in
    survives_all g.S.Store old c.transaction-tx.result.conn.now made c.commit.new.self.0 _ (search rules) c.transaction-tx.ensures.begun (CommitsAll g.S.Store (λ k. written c.args.changes.now c.args.rows.now c.args.indexes.now (cleared c.args.jobs.now k)) old) (λ db. db ≡ (state g.S.Store made).now.trees) c.write_all.ensures.survives c.commit.ensures.survives
    (λ late db is. let early : HasCleanDisk (state g.S.Store made) = omega (arith, late, c.commit.ensures.survives.clean) in commits_all g.S.Store old c.transaction-tx.result.conn.now made c.transaction-tx.ensures.begun (λ k. written c.args.changes.now c.args.rows.now c.args.indexes.now (cleared c.args.jobs.now k)) db (c.in_default.ensures.makes early (search rules)) is)
