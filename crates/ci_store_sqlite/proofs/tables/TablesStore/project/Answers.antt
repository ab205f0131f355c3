use Rattle.ci_store_sqlite.proofs.Loading.{begun}
use Rattle.ci_store_sqlite.proofs.Looking.{loads_so}
use Rattle.ci_store_rows.proofs.Projects.{plain_select, plain_select_above, project_named}
use Rattle.ci_store_sqlite.proofs.tables.TablesStore.project.Goals as goal

pub one_named-requires-clause-plain : goal.one_named-requires-clause-plain
one_named-requires-clause-plain g c = plain_select

pub one_named-requires-clause-plain_above : goal.one_named-requires-clause-plain_above
one_named-requires-clause-plain_above g c = plain_select_above

pub returns : goal.returns
returns g c = begun c.self.view_is (loads_so c.one_named.ensures (λ k at found. project_named g.S.Store c.self.inside.conn c.one_named.new.conn k at c.args.id found))
