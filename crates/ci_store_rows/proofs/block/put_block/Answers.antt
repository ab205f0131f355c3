use Rattle.std.proofs.Common.{[], ◌∷◌, subst}
use Rattle.ci_store.specs.Prelude.{bound_value, HasPut}
use Rattle.ci_store.proofs.Scalars.{on_ok}
use Rattle.ci_store_rows.specs.Prelude.{UPDATE_BLOCK, INSERT_BLOCK}
use Rattle.ci_store_rows.proofs.Blocks.{block_puts}
use Rattle.ci_store_rows.proofs.block.put_block.Goals as goal

pub returns-clause-puts : goal.returns-clause-puts
returns-clause-puts g c clean inside =
    let old = c.args.tx.now.conn.now in
    let new = c.put.new.tx.conn.now in
    on_ok c.put.result
    (λ ran. (
      ran.0,
      λ k bytes stands within. block_puts g.S.Store old new (record { attempt = c.args.attempt; seq = c.args.seq; bytes = c.args.bytes.now }) bytes k stands within
          (subst (λ row. HasPut g.S.Store UPDATE_BLOCK.now INSERT_BLOCK.now row old new) (λ i. bound_value (c.in_ok-attempt.ensures i) ∷ bound_value (c.in_ok-seq.ensures i) ∷ bound_value (c.to_sql.ensures i) ∷ []) ran.1),
    ))
    (c.put.ensures.put clean inside)
