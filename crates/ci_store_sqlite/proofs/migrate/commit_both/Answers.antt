use Rattle.std.proofs.Common.{rules, ◌≡◌, arith}
use Rattle.ci_store.specs.Prelude.{HasCleanDisk, state, Kept}
use Rattle.sqlite.proofs.StateLemmas.{survives_then}
use Rattle.ci_store_sqlite.specs.Prelude.{StandsIn, Stands1}
use Rattle.ci_store_sqlite.proofs.Committing.{survives_all}
use Rattle.ci_store_sqlite.proofs.Migrates.{commits_both, is_at_both}
use Rattle.ci_store_sqlite.proofs.migrate.commit_both.Goals as goal

pub returns-in_err-make_table-clause-survives : goal.returns-in_err-make_table-clause-survives
returns-in_err-make_table-clause-survives g c =
    survives_all g.S.Store c.args.conn.now c.transaction-tx.result.conn.now c.make_table.new.tx.conn.now c.drop-tx.new.self.0 _ (search rules) c.transaction-tx.ensures.begun (λ db. (k : Kept) → Stands1 k (state g.S.Store c.args.conn.now).now → StandsIn k db) (λ _. ⊥)
    c.make_table.ensures.survives c.drop-tx.ensures.survives (λ _ db none. absurd none)

pub returns-in_err-write_version-clause-survives : goal.returns-in_err-write_version-clause-survives
returns-in_err-write_version-clause-survives g c =
    let inside = survives_then _ _ _ (λ _. ⊥) (λ _. ⊥) (λ _. ⊥) (λ _ db none. none) (λ _ db none. none) c.make_table.ensures.survives c.write_version.ensures.survives in
    survives_all g.S.Store c.args.conn.now c.transaction-tx.result.conn.now c.write_version.new.tx.conn.now c.drop-tx-in_err-write_version.new.self.0 _ (search rules) c.transaction-tx.ensures.begun (λ db. (k : Kept) → Stands1 k (state g.S.Store c.args.conn.now).now → StandsIn k db) (λ _. ⊥)
    inside c.drop-tx-in_err-write_version.ensures.survives (λ _ db none. absurd none)

pub returns-clause-made : goal.returns-clause-made
returns-clause-made g c clean =
    let begun = c.transaction-tx.result.conn.now in
    let between = c.make_table.new.tx.conn.now in
    let made = c.write_version.new.tx.conn.now in
    let ended = c.commit.new.self.0 in
    let late : HasCleanDisk (state g.S.Store ended) = search rules in
    let early : HasCleanDisk (state g.S.Store made) = omega (arith, late, c.commit.ensures.survives.clean) in
    let first : HasCleanDisk (state g.S.Store between) = omega (arith, early, c.write_version.ensures.survives.clean) in
    let one = c.in_ok-make_table.ensures.makes first (search rules) in
    let two = c.in_ok-write_version.ensures.makes early one.0 in
    is_at_both g.S.Store c.args.conn.now begun between made c.transaction-tx.ensures.begun one.1 two.1 ended _ (search rules) (c.in_ok-commit.ensures.ok late).1 (λ db is_open may. g.met.S.Store.settled ended.store db is_open may)

pub returns-clause-survives : goal.returns-clause-survives
returns-clause-survives g c =
    let begun = c.transaction-tx.result.conn.now in
    let between = c.make_table.new.tx.conn.now in
    let made = c.write_version.new.tx.conn.now in
    let inside = survives_then _ _ _ (λ _. ⊥) (λ _. ⊥) (λ _. ⊥) (λ _ db none. none) (λ _ db none. none) c.make_table.ensures.survives c.write_version.ensures.survives in
    survives_all g.S.Store c.args.conn.now begun made c.commit.new.self.0 _ (search rules) c.transaction-tx.ensures.begun (λ db. (k : Kept) → Stands1 k (state g.S.Store c.args.conn.now).now → StandsIn k db) (λ db. db ≡ (state g.S.Store made).now.trees) inside c.commit.ensures.survives
    (λ late db is.
    let early : HasCleanDisk (state g.S.Store made) = omega (arith, late, c.commit.ensures.survives.clean) in
    let first : HasCleanDisk (state g.S.Store between) = omega (arith, early, c.write_version.ensures.survives.clean) in
    let one = c.in_ok-make_table.ensures.makes first (search rules) in
    let two = c.in_ok-write_version.ensures.makes early one.0 in
    commits_both g.S.Store c.args.conn.now begun between made c.transaction-tx.ensures.begun one.1 two.1 db is)

pub returns-in_err-commit-clause-survives : goal.returns-in_err-commit-clause-survives
returns-in_err-commit-clause-survives g c =
    let begun = c.transaction-tx.result.conn.now in
    let between = c.make_table.new.tx.conn.now in
    let made = c.write_version.new.tx.conn.now in
    let inside = survives_then _ _ _ (λ _. ⊥) (λ _. ⊥) (λ _. ⊥) (λ _ db none. none) (λ _ db none. none) c.make_table.ensures.survives c.write_version.ensures.survives in
    survives_all g.S.Store c.args.conn.now begun made c.commit.new.self.0 _ (search rules) c.transaction-tx.ensures.begun (λ db. (k : Kept) → Stands1 k (state g.S.Store c.args.conn.now).now → StandsIn k db) (λ db. db ≡ (state g.S.Store made).now.trees) inside c.commit.ensures.survives
    (λ late db is.
    let early : HasCleanDisk (state g.S.Store made) = omega (arith, late, c.commit.ensures.survives.clean) in
    let first : HasCleanDisk (state g.S.Store between) = omega (arith, early, c.write_version.ensures.survives.clean) in
    let one = c.in_ok-make_table.ensures.makes first (search rules) in
    let two = c.in_ok-write_version.ensures.makes early one.0 in
    commits_both g.S.Store c.args.conn.now begun between made c.transaction-tx.ensures.begun one.1 two.1 db is)
