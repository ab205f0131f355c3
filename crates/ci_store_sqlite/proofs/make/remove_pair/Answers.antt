use Rattle.std.proofs.Common.{[], ◌∷◌}
use Rattle.ci_store.specs.Prelude.{bound, bound_value}
use Rattle.ci_store_sqlite.specs.Prelude.{number}
use Rattle.ci_store_rows.proofs.Removals.{by_key}
use Rattle.ci_store_sqlite.proofs.make.remove_pair.Goals as goal

pub returns-clause-removes : goal.returns-clause-removes
returns-clause-removes g c clean inside =
    let old = c.args.tx.now.conn.now in
    let new = c.remove.new.tx.conn.now in
    by_key g.S.Store old new c.remove.result [] c.args.delete.now {params = bound (c.in_ok-first.first ∷ c.in_ok-second.second ∷ [])} {row = number c.args.first ∷ number c.args.second ∷ []} (λ i. bound_value (c.in_ok-first.ensures i) ∷ bound_value (c.in_ok-second.ensures i) ∷ []) (c.remove.ensures.removes clean inside)
