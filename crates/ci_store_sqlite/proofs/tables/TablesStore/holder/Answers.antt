use Rattle.ci_store_sqlite.proofs.Loading.{begun}
use Rattle.ci_store_sqlite.proofs.Looking.{loads_so}
use Rattle.ci_store_rows.proofs.Holders.{plain_select, holder_found}
use Rattle.ci_store_sqlite.proofs.tables.TablesStore.holder.Goals as goal

pub one_of-requires : goal.one_of-requires
one_of-requires g c = plain_select

pub returns : goal.returns
returns g c = begun c.self.view_is (loads_so c.one_of.ensures (λ k at found. holder_found g.S.Store c.self.inside.conn c.one_of.new.conn k at c.args.project c.args.group.now found))
