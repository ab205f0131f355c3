use Rattle.std.proofs.Common.{rules, ◌≡◌, arith}
use Rattle.ci_store.specs.Prelude.{HasCleanDisk, state, nothing_kept}
use Rattle.ci_store_sqlite.specs.Prelude.{IsBlank, StandsIn}
use Rattle.ci_store_sqlite.proofs.Committing.{survives_all, is_at_empty, commits_empty}
use Rattle.ci_store_sqlite.proofs.tables.make_tables.Goals as goal

pub returns-in_err-define_and_fill-clause-survives : goal.returns-in_err-define_and_fill-clause-survives
returns-in_err-define_and_fill-clause-survives g c =
    survives_all g.S.Store c.args.conn.now c.transaction-tx.result.conn.now c.define_and_fill.new.tx.conn.now c.drop-tx.new.self.0 _ (search rules) c.transaction-tx.ensures.begun (λ db. IsBlank g.S.Store c.args.conn.now → StandsIn nothing_kept db) (λ _. ⊥) c.define_and_fill.ensures.survives c.drop-tx.ensures.survives
    (λ _ db none. absurd none)

pub returns-clause-made : goal.returns-clause-made
returns-clause-made g c clean =
    let ended = c.commit.new.self.0 in
    let made = c.define_and_fill.new.tx.conn.now in
    let late : HasCleanDisk (state g.S.Store ended) = search rules in
    let early : HasCleanDisk (state g.S.Store made) = omega (arith, late, c.commit.ensures.survives.clean) in
    is_at_empty g.S.Store c.args.conn.now c.transaction-tx.result.conn.now made ended _ (search rules) c.transaction-tx.ensures.begun (c.in_ok-define_and_fill.ensures.makes early (search rules)).1 (c.in_ok-commit.ensures.ok late).1
    (λ db is_open may. g.met.S.Store.settled ended.store db is_open may)

pub returns-clause-survives : goal.returns-clause-survives
returns-clause-survives g c =
    let made = c.define_and_fill.new.tx.conn.now in
    survives_all g.S.Store c.args.conn.now c.transaction-tx.result.conn.now made c.commit.new.self.0 _ (search rules) c.transaction-tx.ensures.begun (λ db. IsBlank g.S.Store c.args.conn.now → StandsIn nothing_kept db) (λ db. db ≡ (state g.S.Store made).now.trees) c.define_and_fill.ensures.survives c.commit.ensures.survives
    (λ late db is. let early : HasCleanDisk (state g.S.Store made) = omega (arith, late, c.commit.ensures.survives.clean) in commits_empty g.S.Store c.args.conn.now c.transaction-tx.result.conn.now made c.transaction-tx.ensures.begun db (c.in_ok-define_and_fill.ensures.makes early (search rules)).1 is)

pub returns-in_err-commit-clause-survives : goal.returns-in_err-commit-clause-survives
returns-in_err-commit-clause-survives g c =
    let made = c.define_and_fill.new.tx.conn.now in
    survives_all g.S.Store c.args.conn.now c.transaction-tx.result.conn.now made c.commit.new.self.0 _ (search rules) c.transaction-tx.ensures.begun (λ db. IsBlank g.S.Store c.args.conn.now → StandsIn nothing_kept db) (λ db. db ≡ (state g.S.Store made).now.trees) c.define_and_fill.ensures.survives c.commit.ensures.survives
    (λ late db is. let early : HasCleanDisk (state g.S.Store made) = omega (arith, late, c.commit.ensures.survives.clean) in commits_empty g.S.Store c.args.conn.now c.transaction-tx.result.conn.now made c.transaction-tx.ensures.begun db (c.in_ok-define_and_fill.ensures.makes early (search rules)).1 is)
