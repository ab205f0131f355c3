use Rattle.std.proofs.Common.{[], ◌∷◌}
use Rattle.ci_store.specs.Prelude.{bound_value}
use Rattle.ci_store_rows.proofs.Needs.{need_puts}
use Rattle.ci_store_rows.proofs.need.NeedStored.put.Goals as goal

pub returns-clause-makes : goal.returns-clause-makes
returns-clause-makes g c clean inside =
    need_puts c.args.self.now _ _ _ g.S.Store c.args.tx.now.conn.now c.put.new.tx.conn.now c.put.result _
    (λ i. bound_value (c.in_ok-job.ensures i) ∷ bound_value (c.in_ok-pred.ensures i) ∷ []) (c.put.ensures.put clean inside)
