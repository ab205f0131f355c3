use Rattle.ci_store_sqlite.proofs.Loading.{begun}
use Rattle.ci_store_sqlite.proofs.Looking.{loads_so}
use Rattle.ci_store_rows.proofs.Board.{plain_select, row_found}
use Rattle.ci_store_sqlite.proofs.tables.TablesStore.row.Goals as goal

pub one_at-requires : goal.one_at-requires
one_at-requires g c = plain_select

pub returns : goal.returns
returns g c = begun c.self.view_is (loads_so c.one_at.ensures (λ k at found. row_found g.S.Store c.self.inside.conn c.one_at.new.conn k at c.args.job found))
