use Rattle.std.proofs.Common.{◌≡◌, ◌∙◌, ap}
use Rattle.std.specs.List.{flat_map}
use Rattle.ci_store.specs.Prelude.{bound}
use Rattle.ci_store_rows.specs.Rows.{need_row}
use Rattle.ci_store_rows.proofs.Needs.{needs_put}
use Rattle.ci_store_rows.proofs.need.put_run.Goals as goal

pub returns-clause-makes : goal.returns-clause-makes
returns-clause-makes g c clean inside =
    let ran = c.in_ok-change.ensures.changed clean inside in
    let is : bound c.as_slice.result.now ≡ flat_map need_row c.args.needs.now = ap bound c.as_slice.ensures.value ∙ c.in_ok-values.ensures in
    (ran.0, λ k stands. needs_put g.S.Store c.args.tx.now.conn.now c.change.new.tx.conn.now c.args.needs.now c.requires _ is c.in_ok-change.field-0 ran.1 k stands)
