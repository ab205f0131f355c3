use Rattle.std.proofs.Common.{◌≡◌, length, ◌∙◌, arith}
use Rattle.std.proofs.lemmas.Result.{IfOk-weaker}
use Rattle.ci_machine_steps.specs.Prelude.{status_of_jobs}
use Rattle.ci_machine_pipelines.proofs.Untried.{first_facts, as_many_facts, as_many_rows}
use Rattle.ci_machine_pipelines.proofs.creation.Creation.status.Goals as goal

pub status_of-requires-clause-facts : goal.status_of-requires-clause-facts
status_of-requires-clause-facts c = as_many_facts (c.as_slice.ensures.value ∙ c.in_ok-facts.ensures) (omega arith)

pub status_of-requires-clause-rows : goal.status_of-requires-clause-rows
status_of-requires-clause-rows c =
    let count : length c.args.self.now.jobs.items ≡ length c.as_slice-jobs.result.now = omega arith in
    as_many_rows c.args.rows.now (c.as_slice-2.ensures.value ∙ c.in_ok-rows.ensures) (c.requires ∙ count)

-- the facts are those of jobs of which none was tried
pub returns : goal.returns
returns c =
    let count : c.len.result ≡ length c.args.self.now.jobs.items = omega arith in
    let facts = first_facts (c.as_slice.ensures.value ∙ c.in_ok-facts.ensures) count in
    IfOk-weaker c.status_of.result _ _ (λ s is. is ∙ (λ i. status_of_jobs (c.as_slice-jobs.ensures.value i) (facts i) ((c.as_slice-2.ensures.value ∙ c.in_ok-rows.ensures) i))) c.status_of.ensures
