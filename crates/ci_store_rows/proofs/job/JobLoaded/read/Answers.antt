use Rattle.std.proofs.Common.{◌∙◌, [], ◌∷◌}
use Rattle.ci_store_rows.proofs.Reading.{row9}
use Rattle.ci_store_rows.proofs.job.JobLoaded.read.Goals as goal

pub returns : goal.returns
returns c =
    let spec = c.in_ok-options_of.ensures in (
      spec.0,
      row9 c.args.row.now c.in_ok-has_columns.ensures
          ∙ (λ i. c.in_ok-get.ensures.ok.1 i ∷ c.in_ok-get-2.ensures.ok.1 i ∷ c.in_ok-get-3.ensures.ok.1 i ∷ c.in_ok-text_at.ensures i ∷ c.in_ok-text_at-2.ensures i ∷ spec.1 i ∷ c.in_ok-flag_at.ensures i ∷ c.in_ok-flag_at-2.ensures i ∷ c.in_ok-get-4.ensures.ok.1 i ∷ []),
      spec.2,
    )
