use Rattle.std.proofs.Common.{subst}
use Rattle.std.specs.List.{AllZip}
use Rattle.ci_store_rows.proofs.Reading.{if_ok}
use Rattle.ci_store_sqlite.proofs.Looking.{after_look}
use Rattle.ci_store_sqlite.proofs.load.list.Goals as goal

pub returns : goal.returns
returns g c =
    after_look c.read_all.result c.in_ok-rows.ensures
    (λ k at shown.
    if_ok c.read_all.result (λ found read. record { rows = c.in_ok-rows.rows.items; shown = shown; read = subst (λ rows. AllZip g.R.Loaded.is_row rows found.items) c.as_slice.ensures.value read }) c.read_all.ensures)
