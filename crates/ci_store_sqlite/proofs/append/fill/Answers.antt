use Rattle.std.proofs.Common.{rules, ◌≡◌, ◌<◌, ◌++◌, length, sym, subst}
use Rattle.ci_store.specs.Prelude.{state}
use Rattle.ci_store_sqlite.specs.Prelude.{Stands, appended}
use Rattle.ci_store_rows.proofs.Blocks.{stands_without_bytes}
use Rattle.ci_store_sqlite.proofs.Looking.{on_ok}
use Rattle.ci_store_sqlite.proofs.Appending.{nothing, filled}
use Rattle.ci_store_sqlite.proofs.append.fill.Goals as goal

pub returns-then-is_empty-clause-makes : goal.returns-then-is_empty-clause-makes
returns-then-is_empty-clause-makes g c clean inside =
    let none : length c.args.bytes.now ≡ 0 = search rules in
    (inside, λ k stands its. subst (λ bytes. Stands (appended c.args.last.attempt bytes k) (state g.S.Store c.args.tx.now.conn.now).now) (sym (nothing g.S.Store c.args.bytes.now none)) (stands_without_bytes k c.args.last.attempt (state g.S.Store c.args.tx.now.conn.now).now stands))

pub returns-clause-makes : goal.returns-clause-makes
returns-clause-makes g c clean inside =
    let all : c.as_slice.result.now ≡ c.args.last.bytes ++ c.args.bytes.now = search rules in
    let some : 0 < length c.args.bytes.now = search rules in
    on_ok c.put_block.result
    (λ puts. (puts.0, filled g.S.Store c.args.tx.now.conn.now c.put_block.new.tx.conn.now c.args.last c.args.bytes.now c.as_slice.result.now all some c.requires puts)) (c.put_block.ensures.puts clean inside)
