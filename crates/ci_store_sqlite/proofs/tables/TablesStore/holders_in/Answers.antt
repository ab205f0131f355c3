use Rattle.ci_store_sqlite.proofs.Loading.{begun}
use Rattle.ci_store_sqlite.proofs.Looking.{loads_so}
use Rattle.ci_store_rows.proofs.Holders.{plain_select_in, holders_found}
use Rattle.ci_store_sqlite.proofs.tables.TablesStore.holders_in.Goals as goal

pub list_of-requires : goal.list_of-requires
list_of-requires g c = plain_select_in

pub returns : goal.returns
returns g c = begun c.self.view_is (loads_so c.list_of.ensures (λ k at found. holders_found g.S.Store c.self.inside.conn c.list_of.new.conn k at c.args.project found.items))
