use Rattle.std.proofs.Common.{rules, ◌≡◌, ◌<◌, ◌≤◌, length, get_or}
use Rattle.ci_store.specs.Prelude.{bound}
use Rattle.ci_store_sqlite.specs.Prelude.{ShowsRecords, listed}
use Rattle.ci_store_sqlite.proofs.Looking.{after_look, none_read, one_read}
use Rattle.ci_store_sqlite.proofs.load.one.Goals as goal

pub returns-in-empty : goal.returns-in-empty
returns-in-empty g c =
    let rows = c.in_ok-rows.rows.items in
    let low : length rows < 1 = search rules in
    after_look {Q = λ _ found. ShowsRecords g.R.Loaded.is_row g.S.Store c.args.sql.now (bound c.args.params.now) c.args.conn.now c.look_up.new.self (listed found)} _ c.in_ok-rows.ensures (λ k at shown. record { rows = rows; shown = shown; read = none_read g.R.Loaded.is_row rows low })

pub returns-in-len1 : goal.returns-in-len1
returns-in-len1 g c =
    let rows = c.in_ok-rows.rows.items in
    let low : length rows < 2 = search rules in
    let high : 1 ≤ length rows = search rules in
    let item = c.row-item.is in
    let first : get_or rows 0 c.row-item.result ≡ c.row-item.result = search (rules, item) in
    after_look {Q = λ _ found. ShowsRecords g.R.Loaded.is_row g.S.Store c.args.sql.now (bound c.args.params.now) c.args.conn.now c.look_up.new.self (listed found)} _ c.in_ok-rows.ensures (λ k at shown. record { rows = rows; shown = shown; read = one_read g.R.Loaded.is_row rows c.row-item.result _ high low first c.in_ok-read-in-len1.ensures })

pub returns-in_err-read-in-len1 : goal.returns-in_err-read-in-len1
returns-in_err-read-in-len1 g c = after_look _ c.in_ok-rows.ensures (λ k at shown. search rules)
