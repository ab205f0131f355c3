use Rattle.std.proofs.Common.{◌∙◌, [], ◌∷◌, ap, subst}
use Rattle.std.specs.List.{flat_map}
use Rattle.ci_store.specs.Prelude.{column, Shown, bound_value, state}
use Rattle.ci_store_sqlite.specs.Prelude.{SELECT_BLOCKS, bytes_in}
use Rattle.ci_store_rows.proofs.Blocks.{plain_select_of, trace_joined}
use Rattle.ci_store_rows.proofs.Reading.{if_ok}
use Rattle.ci_store_sqlite.proofs.Looking.{after_look}
use Rattle.ci_store_sqlite.proofs.load.trace_of.Goals as goal

pub look_up-requires : goal.look_up-requires
look_up-requires g c = plain_select_of

pub returns : goal.returns
returns g c =
    after_look c.joined.result c.in_ok-rows.ensures
    (λ k at shows.
    let old = c.args.conn.now in
    let new = c.look_up.new.self in
    let rows = c.in_ok-rows.rows.items in
    let shown = subst (λ row. Shown SELECT_BLOCKS.now row (state g.S.Store old) (state g.S.Store new) rows) (λ i. bound_value (c.in_ok-attempt.ensures i) ∷ []) shows in
    if_ok c.joined.result (λ bytes is. is ∙ ap (flat_map (λ row. bytes_in (column row 2))) c.as_slice.ensures.value ∙ trace_joined g.S.Store old new k at.now c.args.attempt rows shown) c.joined.ensures)
