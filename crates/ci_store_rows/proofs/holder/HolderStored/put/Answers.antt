use Rattle.std.proofs.Common.{[], ◌∷◌}
use Rattle.ci_store.specs.Prelude.{bound_value}
use Rattle.ci_store_rows.proofs.Holders.{holder_puts}
use Rattle.ci_store_rows.proofs.holder.HolderStored.put.Goals as goal

pub returns-clause-makes : goal.returns-clause-makes
returns-clause-makes g c clean inside =
    holder_puts c.args.self.now _ _ _ g.S.Store c.args.tx.now.conn.now c.put.new.tx.conn.now c.put.result _
    (λ i. bound_value (c.in_ok-project.ensures i) ∷ bound_value (c.text.ensures i) ∷ bound_value (c.in_ok-attempt.ensures i) ∷ []) (c.put.ensures.put clean inside)
