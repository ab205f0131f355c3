use Rattle.std.proofs.Common.{rules, ◌≡◌, ◌∙◌, [], ◌∷◌, subst}
use Rattle.ci_store.specs.Prelude.{Text, bound_value, Shown, state, next_of}
use Rattle.ci_store_sqlite.specs.Prelude.{SELECT_META, counter_key, meta_row}
use Rattle.ci_store_rows.proofs.NextLoads.{plain_meta, next_found, number_read}
use Rattle.ci_store_sqlite.proofs.Looking.{after_look}
use Rattle.ci_store_sqlite.proofs.load.next.Goals as goal

pub look_up-requires : goal.look_up-requires
look_up-requires g c = plain_meta

pub returns-in-len1 : goal.returns-in-len1
returns-in-len1 g c =
    after_look _ c.in_ok-rows.ensures
    (λ k at shows.
    let old = state g.S.Store c.args.conn.now in
    let new = state g.S.Store c.look_up.new.self in
    let rows = c.in_ok-rows.rows.items in
    let key = (λ i. bound_value (c.to_sql.ensures i) ∷ []) ∙ (λ i. Text (c.counter_key.ensures i) ∷ []) in
    let shown = subst (λ row. Shown SELECT_META.now row old new rows) key shows in
    let is = next_found old new k at.now c.args.counter rows shown in
    let item = c.row-item.is in
    let first : meta_row (counter_key c.args.counter) (next_of c.args.counter k.state.next) ≡ c.row-item.result = search (rules, is, item) in
    number_read (counter_key c.args.counter) _ (next_of c.args.counter k.state.next) c.row-item.result first c.in_ok-get-in-len1.ensures.ok.1)

pub returns-in_err-get-in-len1 : goal.returns-in_err-get-in-len1
returns-in_err-get-in-len1 g c = after_look _ c.in_ok-rows.ensures (λ k at shows. search rules)
