use Rattle.std.proofs.Common.{[], subst, sym}
use Rattle.ci_store.specs.Prelude.{state, indexed}
use Rattle.ci_store_sqlite.proofs.Applied.{by_item}
use Rattle.ci_store_rows.proofs.Removals.{removed_indexed}
use Rattle.ci_store_rows.proofs.Holders.{holder_freed}
use Rattle.ci_store_sqlite.specs.Prelude.{Stands}
use Rattle.ci_store_rows.proofs.OneList.{stands_with_unfinished}
use Rattle.ci_store_sqlite.proofs.make.change_index.Goals as goal

pub returns-in-Hold-clause-makes : goal.returns-in-Hold-clause-makes
returns-in-Hold-clause-makes g c clean inside =
    by_item g.S.Store c.args.tx.now.conn.now c.put.new.tx.conn.now indexed c.in-Hold.is c.put.result (c.put.ensures.makes clean inside)

pub returns-in-Free-clause-makes : goal.returns-in-Free-clause-makes
returns-in-Free-clause-makes g c clean inside =
    removed_indexed g.S.Store c.args.tx.now.conn.now c.remove_named.new.tx.conn.now c.in-Free.is c.remove_named.result [] _ (holder_freed g.S.Store c.args.tx.now.conn.now c.remove_named.new.tx.conn.now _ _) (c.remove_named.ensures.removes clean inside)

pub returns-in-Open-clause-makes : goal.returns-in-Open-clause-makes
returns-in-Open-clause-makes g c clean inside =
    (inside, λ k stands. subst (λ change. Stands (indexed change k) (state g.S.Store c.args.tx.now.conn.now).now) (sym c.in-Open.is) (stands_with_unfinished k _ _ stands))

pub returns-in-Close-clause-makes : goal.returns-in-Close-clause-makes
returns-in-Close-clause-makes g c clean inside =
    (inside, λ k stands. subst (λ change. Stands (indexed change k) (state g.S.Store c.args.tx.now.conn.now).now) (sym c.in-Close.is) (stands_with_unfinished k _ _ stands))
