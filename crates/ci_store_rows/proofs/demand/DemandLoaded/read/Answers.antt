use Rattle.std.proofs.Common.{◌∙◌, [], ◌∷◌, string_bytes, subst, sym}
use Rattle.ci_store.specs.Prelude.{Text}
use Rattle.ci_store_rows.specs.Prelude.{ReadsDemand, number}
use Rattle.ci_store_rows.proofs.Reading.{row3}
use Rattle.ci_store_rows.proofs.Reading.{if_ok, both_ok}
use Rattle.ci_store_rows.proofs.demand.DemandLoaded.read.Goals as goal

pub returns : goal.returns
returns c =
    if_ok c.read_demand.result
    (λ it told. (
      string_bytes c.in_ok-spec.spec,
      row3 c.args.row.now c.in_ok-has_columns.ensures ∙ (λ i. c.in_ok-job.ensures.ok.1 i ∷ c.in_ok-pipeline.ensures.ok.1 i ∷ c.in_ok-spec.ensures.ok.1 i ∷ []) ∙ (λ i. number (sym told.0.0 i) ∷ number (sym told.0.1 i) ∷ Text (string_bytes c.in_ok-spec.spec) ∷ []),
      subst (λ text. ReadsDemand text it) c.as_str.ensures.value told.1,
    ))
    (both_ok _ _ c.read_demand.result c.read_demand.ensures.numbers c.read_demand.ensures.reads)
