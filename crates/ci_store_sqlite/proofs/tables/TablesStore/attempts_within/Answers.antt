use Rattle.ci_store_sqlite.proofs.Loading.{begun}
use Rattle.ci_store_sqlite.proofs.Looking.{loads_so}
use Rattle.ci_store_rows.proofs.Attempts.{plain_select_within, attempts_within_found}
use Rattle.ci_store_sqlite.proofs.tables.TablesStore.attempts_within.Goals as goal

pub list_within-requires : goal.list_within-requires
list_within-requires g c = plain_select_within

pub returns : goal.returns
returns g c = begun c.self.view_is (loads_so c.list_within.ensures (λ k at found. attempts_within_found g.S.Store c.self.inside.conn c.list_within.new.conn k at c.args.first c.args.last found.items))
