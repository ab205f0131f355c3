use Rattle.std.proofs.Common.{[], ◌∷◌, ◌≡◌, ◌∙◌, subst}
use Rattle.ci_store_sqlite.specs.Prelude.{number, board_row, ShowsRecords, SELECT_ROWS_WITH}
use Rattle.ci_store_sqlite.proofs.Loading.{begun}
use Rattle.ci_store_sqlite.proofs.Looking.{loads_so}
use Rattle.ci_store_rows.proofs.Board.{plain_select_with, rows_with_found}
use Rattle.ci_store_sqlite.proofs.tables.TablesStore.rows_with.Goals as goal

pub list_of-requires : goal.list_of-requires
list_of-requires g c = plain_select_with

pub returns : goal.returns
returns g c =
    begun c.self.view_is
    (loads_so c.list_of.ensures
    (λ k at found shows. rows_with_found g.S.Store c.self.inside.conn c.list_of.new.conn k at c.args.status found.items
    (subst (λ n. ShowsRecords (λ row x. row ≡ board_row x) g.S.Store SELECT_ROWS_WITH.now (number n ∷ []) c.self.inside.conn c.list_of.new.conn found.items) (c.from.ensures ∙ c.as_number.ensures) shows)))
