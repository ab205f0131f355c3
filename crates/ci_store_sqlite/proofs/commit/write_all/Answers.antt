use Rattle.std.proofs.Common.{arith}
use Rattle.ci_store.specs.Prelude.{HasCleanDisk, state}
use Rattle.ci_store_sqlite.proofs.Looking.{on_ok}
use Rattle.ci_store_sqlite.proofs.commit.write_all.Goals as goal

pub returns-clause-makes : goal.returns-clause-makes
returns-clause-makes g c clean inside =
    let emptied = c.clear_rows.new.tx.conn.now in
    let made = c.make_all.new.tx.conn.now in
    let placed = c.put_rows.new.tx.conn.now in
    let early : HasCleanDisk (state g.S.Store placed) = omega (arith, clean, c.change_indexes.ensures.survives.clean) in
    let second : HasCleanDisk (state g.S.Store made) = omega (arith, early, c.in_ok-put_rows.ensures.survives.clean) in
    let first : HasCleanDisk (state g.S.Store emptied) = omega (arith, second, c.in_ok-make_all.ensures.survives.clean) in
    let gone = c.in_ok-clear_rows.ensures.makes first inside in
    let changed = c.in_ok-make_all.ensures.makes second gone.0 in
    let put = c.in_ok-put_rows.ensures.makes early changed.0 in
    on_ok c.change_indexes.result (λ last. (last.0, λ k stands. last.1 _ (put.1 _ (changed.1 _ (gone.1 k stands))))) (c.change_indexes.ensures.makes clean put.0)
