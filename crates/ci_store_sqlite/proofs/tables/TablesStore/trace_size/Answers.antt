use Rattle.ci_store_sqlite.proofs.Loading.{begun}
use Rattle.ci_store_sqlite.proofs.Looking.{loads_so}
use Rattle.ci_store_sqlite.proofs.tables.TablesStore.trace_size.Goals as goal

pub returns : goal.returns
returns g c = begun c.self.view_is (loads_so c.trace_size.ensures (λ k at x is. is))
