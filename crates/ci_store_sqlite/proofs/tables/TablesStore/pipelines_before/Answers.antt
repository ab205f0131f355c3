use Rattle.ci_store_sqlite.proofs.Loading.{begun}
use Rattle.ci_store_sqlite.proofs.Looking.{loads_so}
use Rattle.ci_store_rows.proofs.Pipelines.{plain_select_before, pipelines_before_found}
use Rattle.ci_store_sqlite.proofs.tables.TablesStore.pipelines_before.Goals as goal

pub list_before-requires : goal.list_before-requires
list_before-requires g c = plain_select_before

pub returns : goal.returns
returns g c = begun c.self.view_is (loads_so c.list_before.ensures (λ k at found. pipelines_before_found g.S.Store c.self.inside.conn c.list_before.new.conn k at c.args.before c.args.count found.items))
