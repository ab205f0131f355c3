use Rattle.std.proofs.Common.{◌≡◌, length, ◌∙◌, arith}
use Rattle.std.proofs.lemmas.Result.{IfOk-weaker}
use Rattle.serde_json.specs.Written.{compact_text}
use Rattle.ci_machine_steps.specs.Prelude.{pipeline_data}
use Rattle.ci_machine_pipelines.proofs.Untried.{first_facts, as_many_facts, as_many_rows}
use Rattle.ci_machine_pipelines.proofs.creation.Creation.text.Goals as goal

pub pipeline-requires-clause-facts : goal.pipeline-requires-clause-facts
pipeline-requires-clause-facts c = as_many_facts (c.as_slice.ensures.value ∙ c.in_ok-facts.ensures) (omega arith)

pub pipeline-requires-clause-rows : goal.pipeline-requires-clause-rows
pipeline-requires-clause-rows c =
    let count : length c.args.self.now.jobs.items ≡ length c.as_slice-jobs.result.now = omega arith in
    as_many_rows c.args.rows.now (c.as_slice-2.ensures.value ∙ c.in_ok-rows.ensures) (c.requires ∙ count)

pub returns : goal.returns
returns c =
    let count : c.len.result ≡ length c.args.self.now.jobs.items = omega arith in
    let facts = first_facts (c.as_slice.ensures.value ∙ c.in_ok-facts.ensures) count in
    IfOk-weaker c.pipeline.result _ _ (λ t is. is ∙ (λ i. compact_text (pipeline_data c.args.self.now.pipeline c.args.claims.now (c.as_slice-jobs.ensures.value i) (facts i) ((c.as_slice-2.ensures.value ∙ c.in_ok-rows.ensures) i)))) c.pipeline.ensures
