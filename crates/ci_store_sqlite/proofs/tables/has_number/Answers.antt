use Rattle.std.proofs.Common.{rules, arith, ◌≡◌, ◌<◌, ◌≤◌, [], ◌∷◌, length, get_or, subst}
use Rattle.ci_store.specs.Prelude.{bound_value, Shown, state}
use Rattle.ci_store_sqlite.specs.Prelude.{SELECT_META}
use Rattle.ci_store_sqlite.proofs.Looking.{on_any}
use Rattle.ci_store_sqlite.proofs.Openings.{survives_query, same_after_query, selected, one_found, none_found}
use Rattle.ci_store_sqlite.proofs.tables.has_number.Goals as goal

pub returns-in_err-rows-clause-survives : goal.returns-in_err-rows-clause-survives
returns-in_err-rows-clause-survives g c = survives_query _ _ _ c.rows.ensures.commits

pub returns-in-empty-clause-same : goal.returns-in-empty-clause-same
returns-in-empty-clause-same g c clean = same_after_query _ _ _ _ (c.in_ok-rows.ensures.shown clean)

pub returns-in-empty-clause-found : goal.returns-in-empty-clause-found
returns-in-empty-clause-found g c clean =
    let rows = c.in_ok-rows.rows.items in
    let low : length rows < 1 = search rules in
    none_found _ _ _ rows (λ one. absurd (omega (arith, low, one))) (selected _ _ _ rows (subst (λ row. Shown SELECT_META.now row (state g.S.Store c.args.conn.now) (state g.S.Store c.rows.new.conn) rows) (λ i. bound_value (c.to_sql.ensures i) ∷ []) (c.in_ok-rows.ensures.shown clean)))

pub returns-in-empty-clause-survives : goal.returns-in-empty-clause-survives
returns-in-empty-clause-survives g c = survives_query _ _ _ c.rows.ensures.commits

pub returns-in-len1-clause-same : goal.returns-in-len1-clause-same
returns-in-len1-clause-same g c clean = on_any c.is_number.result (same_after_query _ _ _ _ (c.in_ok-rows.ensures.shown clean))

pub returns-in-len1-clause-found : goal.returns-in-len1-clause-found
returns-in-len1-clause-found g c clean =
    let rows = c.in_ok-rows.rows.items in
    let low : length rows < 2 = search rules in
    let high : 1 ≤ length rows = search rules in
    let item = c.row-item.is in
    let first : get_or rows 0 c.row-item.result ≡ c.row-item.result = search (rules, item) in
    one_found _ _ _ rows c.row-item.result high low first (selected _ _ _ rows (subst (λ row. Shown SELECT_META.now row (state g.S.Store c.args.conn.now) (state g.S.Store c.rows.new.conn) rows) (λ i. bound_value (c.to_sql.ensures i) ∷ []) (c.in_ok-rows.ensures.shown clean))) c.is_number.result c.is_number.ensures

pub returns-in-len1-clause-survives : goal.returns-in-len1-clause-survives
returns-in-len1-clause-survives g c = survives_query _ _ _ c.rows.ensures.commits

pub returns-clause-same : goal.returns-clause-same
returns-clause-same g c clean = same_after_query _ _ _ _ (c.in_ok-rows.ensures.shown clean)

pub returns-clause-found : goal.returns-clause-found
returns-clause-found g c clean =
    let rows = c.in_ok-rows.rows.items in
    let high : 2 ≤ length rows = search rules in
    none_found _ _ _ rows (λ one. absurd (omega (arith, high, one))) (selected _ _ _ rows (subst (λ row. Shown SELECT_META.now row (state g.S.Store c.args.conn.now) (state g.S.Store c.rows.new.conn) rows) (λ i. bound_value (c.to_sql.ensures i) ∷ []) (c.in_ok-rows.ensures.shown clean)))

pub returns-clause-survives : goal.returns-clause-survives
returns-clause-survives g c = survives_query _ _ _ c.rows.ensures.commits
