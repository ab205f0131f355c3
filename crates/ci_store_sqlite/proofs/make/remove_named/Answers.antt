use Rattle.std.proofs.Common.{[], ◌∷◌}
use Rattle.ci_store.specs.Prelude.{Text, bound, bound_value}
use Rattle.ci_store_sqlite.specs.Prelude.{number}
use Rattle.ci_store_rows.proofs.Removals.{by_key}
use Rattle.ci_store_sqlite.proofs.make.remove_named.Goals as goal

pub returns-clause-removes : goal.returns-clause-removes
returns-clause-removes g c clean inside =
    let old = c.args.tx.now.conn.now in
    let new = c.remove.new.tx.conn.now in
    by_key g.S.Store old new c.remove.result [] c.args.delete.now {params = bound (c.in_ok-owner.owner ∷ c.text.result ∷ [])} {row = number c.args.owner ∷ Text c.args.name.now ∷ []} (λ i. bound_value (c.in_ok-owner.ensures i) ∷ bound_value (c.text.ensures i) ∷ []) (c.remove.ensures.removes clean inside)
