use Rattle.std.proofs.Common.{◌∙◌, [], ◌∷◌}
use Rattle.ci_store.specs.Prelude.{bound_value}
use Rattle.ci_store_sqlite.specs.Prelude.{number}
use Rattle.ci_store_sqlite.proofs.Loading.{begun}
use Rattle.ci_store_sqlite.proofs.Looking.{loads_so}
use Rattle.ci_store_sqlite.proofs.Looking.{by_params}
use Rattle.ci_store_rows.proofs.Attempts.{plain_select_in, live_found}
use Rattle.ci_store_sqlite.proofs.tables.TablesStore.live_attempts.Goals as goal

pub list-requires : goal.list-requires
list-requires g c = plain_select_in

pub returns : goal.returns
returns g c =
    begun c.self.view_is (loads_so c.list.ensures (λ k at found h. live_found g.S.Store c.self.inside.conn c.list.new.conn k at found.items (by_params ((λ i. bound_value (c.to_sql.ensures i) ∷ []) ∙ (λ i. number ((c.state_numbers-live.ensures i).0) ∷ [])) h)))
