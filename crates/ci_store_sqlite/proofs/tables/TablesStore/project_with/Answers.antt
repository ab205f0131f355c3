use Rattle.std.proofs.Common.{[], ◌∷◌}
use Rattle.ci_store.specs.Prelude.{bound_value}
use Rattle.ci_store_sqlite.proofs.Loading.{begun}
use Rattle.ci_store_sqlite.proofs.Looking.{loads_so}
use Rattle.ci_store_sqlite.proofs.Looking.{by_params}
use Rattle.ci_store_rows.proofs.Projects.{plain_select_with, project_with_found}
use Rattle.ci_store_sqlite.proofs.tables.TablesStore.project_with.Goals as goal

pub one-requires : goal.one-requires
one-requires g c = plain_select_with

pub returns : goal.returns
returns g c =
    begun c.self.view_is (loads_so c.one.ensures (λ k at found h. project_with_found g.S.Store c.self.inside.conn c.one.new.conn k at c.args.token.now found (by_params (λ i. bound_value (c.text.ensures i) ∷ []) h)))
