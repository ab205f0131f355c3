use Rattle.std.proofs.Common.{rules, ◌∙◌, [], ◌∷◌, ap}
use Rattle.ci_store.specs.Prelude.{column, or_null}
use Rattle.ci_store_rows.specs.Prelude.{number, HasState}
use Rattle.ci_store_rows.proofs.Reading.{row9, option_cell}
use Rattle.ci_store_rows.proofs.attempt.AttemptLoaded.read.Goals as goal

pub returns : goal.returns
returns c =
    let row = c.args.row.now in
    let it : HasState c.in_ok-get.field-0 c.in_ok-get-2.field-0 c.in_ok-get-3.field-0 c.in_ok-ok_or.field-0 = search rules in
    let state = c.in_ok-get.ensures.ok.1 ∙ ap number it.0 in
    let cause = option_cell (column row 7) c.in_ok-get-2.field-0 c.in_ok-get-2.ensures.ok.1 ∙ ap (or_null number) it.1 in
    let exit = option_cell (column row 8) c.in_ok-get-3.field-0 c.in_ok-get-3.ensures.ok.1 ∙ ap (or_null number) it.2 in
    row9 row c.in_ok-has_columns.ensures
    ∙ (λ i. c.in_ok-get-4.ensures.ok.1 i ∷ c.in_ok-get-5.ensures.ok.1 i ∷ c.in_ok-get-6.ensures.ok.1 i ∷ c.in_ok-text_at.ensures i ∷ c.in_ok-moment_at.ensures i ∷ c.in_ok-moment_at-2.ensures i ∷ state i ∷ cause i ∷ exit i ∷ [])
