use Rattle.std.proofs.Common.{◌∙◌, [], ◌∷◌}
use Rattle.ci_store.specs.Prelude.{column}
use Rattle.ci_store_rows.proofs.Reading.{row7, option_cell}
use Rattle.ci_store_rows.proofs.runner.RunnerLoaded.read.Goals as goal

pub returns : goal.returns
returns c =
    let tags = c.in_ok-texts_at.ensures in (
      tags.0,
      row7 c.args.row.now c.in_ok-has_columns.ensures
          ∙ (λ i. c.in_ok-get.ensures.ok.1 i ∷ c.in_ok-text_at.ensures i ∷ c.in_ok-text_at-2.ensures i ∷ option_cell (column c.args.row.now 3) c.in_ok-get-2.field-0 c.in_ok-get-2.ensures.ok.1 i ∷ tags.1 i ∷ c.in_ok-flag_at.ensures i ∷ c.in_ok-flag_at-2.ensures i ∷ []),
      tags.2,
    )
