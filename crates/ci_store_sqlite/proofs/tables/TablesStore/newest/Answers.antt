use Rattle.ci_store_sqlite.proofs.Loading.{begun}
use Rattle.ci_store_sqlite.proofs.Looking.{loads_so}
use Rattle.ci_store_sqlite.proofs.tables.TablesStore.newest.Goals as goal

pub returns : goal.returns
returns g c = begun c.self.view_is (loads_so c.newest.ensures (λ k at x is. is))
