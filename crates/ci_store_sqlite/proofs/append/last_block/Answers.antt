use Rattle.std.proofs.Common.{rules, ◌≡◌, ◌∙◌, ◌<◌, ◌≤◌, [], ◌∷◌, length, get_or, Some, None}
use Rattle.ci_store.specs.Prelude.{bound_value}
use Rattle.ci_store_sqlite.specs.Prelude.{number, block_row}
use Rattle.ci_store_sqlite.proofs.Looking.{by_params, none_read, one_read}
use Rattle.ci_store_sqlite.proofs.Appending.{found_inside}
use Rattle.ci_store_sqlite.proofs.append.last_block.Goals as goal

pub returns-in-empty-clause-finds : goal.returns-in-empty-clause-finds
returns-in-empty-clause-finds g c clean inside =
    let rows = c.in_ok-rows.rows.items in
    let ran = c.in_ok-rows.ensures.shown clean inside in
    let key = (λ i. bound_value (c.in_ok-attempt.ensures i) ∷ bound_value (c.in_ok-only.ensures i) ∷ []) ∙ (λ i. number c.args.attempt ∷ number 1 ∷ []) in
    let low : length rows < 1 = search rules in
    (ran.0, found_inside g.S.Store c.args.tx.now.conn.now c.rows_inside.new.tx.conn.now c.args.attempt None (by_params key (record { rows = rows; shown = ran.1; read = none_read (λ row b. row ≡ block_row b) rows low })))

pub returns-in-len1-clause-finds : goal.returns-in-len1-clause-finds
returns-in-len1-clause-finds g c clean inside =
    let rows = c.in_ok-rows.rows.items in
    let ran = c.in_ok-rows.ensures.shown clean inside in
    let key = (λ i. bound_value (c.in_ok-attempt.ensures i) ∷ bound_value (c.in_ok-only.ensures i) ∷ []) ∙ (λ i. number c.args.attempt ∷ number 1 ∷ []) in
    let low : length rows < 2 = search rules in
    let high : 1 ≤ length rows = search rules in
    let item = c.row-item.is in
    let first : get_or rows 0 c.row-item.result ≡ c.row-item.result = search (rules, item) in
    let read = one_read (λ row b. row ≡ block_row b) rows c.row-item.result c.in_ok-read-in-len1.field-0 high low first c.in_ok-read-in-len1.ensures in
    (ran.0, found_inside g.S.Store c.args.tx.now.conn.now c.rows_inside.new.tx.conn.now c.args.attempt (Some c.in_ok-read-in-len1.field-0) (by_params key (record { rows = rows; shown = ran.1; read = read })))
