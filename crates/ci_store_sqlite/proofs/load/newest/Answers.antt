use Rattle.std.proofs.Common.{[], ◌∷◌}
use Rattle.ci_store.specs.Prelude.{bound_value}
use Rattle.ci_store_sqlite.proofs.Looking.{looked_so, by_params}
use Rattle.ci_store_rows.proofs.Pipelines.{plain_select_newest, newest_found}
use Rattle.ci_store_sqlite.proofs.load.newest.Goals as goal

pub list-requires : goal.list-requires
list-requires g c = plain_select_newest

pub returns : goal.returns
returns g c =
    looked_so c.list.ensures
    (λ k at found h.
    newest_found g.S.Store c.args.conn.now c.list.new.conn k at c.args.project c.args.count found.items
    (by_params (λ i. bound_value (c.in_ok-project.ensures i) ∷ bound_value (c.in_ok-count.ensures i) ∷ []) h))
