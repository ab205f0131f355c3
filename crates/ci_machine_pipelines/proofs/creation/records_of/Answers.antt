use Rattle.std.proofs.Common.{◌≡◌, ℕ, length, sym, ap, ◌∙◌, arith}
use Rattle.std.proofs.lemmas.List.{length-map}
use Rattle.ci_graph_layout.specs.Prelude.{included_view}
use Rattle.ci_machine_steps.specs.Prelude.{lacks_numbers}
use Rattle.ci_machine_pipelines.proofs.Laying.{numbers_fit}
use Rattle.ci_machine_pipelines.proofs.creation.records_of.Goals as goal

pub returns-then-lacks_numbers : goal.returns-then-lacks_numbers
returns-then-lacks_numbers c =
    let start = c.args.start.now in
    let count : length c.args.plan.now.jobs.items ≡ c.len.result = omega arith in
    ap (λ (n : ℕ). lacks_numbers start.id start.first_job n) (length-map c.args.plan.now.jobs.items included_view ∙ count) ∙ (sym c.lacks_numbers.ensures ∙ c.if-lacks_numbers.true)

pub all_records-requires-clause-numbers : goal.all_records-requires-clause-numbers
all_records-requires-clause-numbers c =
    let fits = numbers_fit c.args.start.now.id c.args.start.now.first_job c.len.result (sym c.lacks_numbers.ensures ∙ c.if-lacks_numbers.false) in
    omega (arith, fits.1)

pub returns : goal.returns
returns c =
    let start = c.args.start.now in
    let count : length c.args.plan.now.jobs.items ≡ c.len.result = omega arith in (
      c.in_ok-made.ensures,
      ap (λ (n : ℕ). lacks_numbers start.id start.first_job n) (length-map c.args.plan.now.jobs.items included_view ∙ count) ∙ (sym c.lacks_numbers.ensures ∙ c.if-lacks_numbers.false),
    )
