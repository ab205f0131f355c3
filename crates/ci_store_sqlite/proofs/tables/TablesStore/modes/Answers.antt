use Rattle.ci_store_sqlite.proofs.Loading.{begun}
use Rattle.ci_store_sqlite.proofs.Looking.{loads_so}
use Rattle.ci_store_rows.proofs.Modes.{plain_select_all, modes_found}
use Rattle.ci_store_sqlite.proofs.tables.TablesStore.modes.Goals as goal

pub list-requires : goal.list-requires
list-requires g c = plain_select_all

pub returns : goal.returns
returns g c = begun c.self.view_is (loads_so c.list.ensures (λ k at found. modes_found g.S.Store c.self.inside.conn c.list.new.conn k at found.items))
