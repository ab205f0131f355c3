use Rattle.std.proofs.Common.{[], ◌∷◌, map}
use Rattle.ci_store.specs.Prelude.{bound, bound_value}
use Rattle.ci_store_sqlite.specs.Prelude.{number}
use Rattle.ci_store_rows.proofs.Removals.{by_key}
use Rattle.ci_store_sqlite.proofs.make.remove_at.Goals as goal

pub returns-clause-removes : goal.returns-clause-removes
returns-clause-removes g c clean inside =
    let old = c.args.tx.now.conn.now in
    let new = c.remove.new.tx.conn.now in
    let queries = map (λ query. query.now) c.args.referring.now in
    by_key g.S.Store old new c.remove.result queries c.args.delete.now {params = bound (c.in_ok-id.id ∷ [])} {row = number c.args.id ∷ []} (λ i. bound_value (c.in_ok-id.ensures i) ∷ []) (c.remove.ensures.removes clean inside)
