use Rattle.std.proofs.Common.{sym, ap, subst, ◌≡◌, ◌∙◌, true, map, All, nat_cmp}
use Rattle.std.specs.List.Sorted.{IsStrictlySortedBy}
use Rattle.ci_machine.specs.Prelude.{is_among}
use Rattle.ci_machine_steps.specs.Prelude.{BoardRow, row_for}
use Rattle.ci_machine_steps.proofs.Sound.{sound}
use Rattle.ci_machine_statuses.proofs.Found.{passed_on}
use Rattle.ci_machine_statuses.proofs.Loaded.{numbers_ascend, rows_ascend, all_facts, all_rows, attempts_are_there, rows_are_there}
use Rattle.ci_machine_statuses.proofs.load.facts_and_rows.Goals as goal

pub returns-clause-facts : goal.returns-clause-facts
returns-clause-facts c = λ s kept pipeline needs is_sound are records.
    c.in_ok-facts.ensures.facts
    (subst (IsStrictlySortedBy nat_cmp) (sym (c.as_slice.ensures.value ∙ c.in_ok-numbers.ensures)) (numbers_ascend s kept pipeline c.args.jobs.now needs c.args.attempts.now c.args.rows.now (sound s is_sound) are records))
    ∙ all_facts s kept pipeline c.args.jobs.now needs c.args.attempts.now c.args.rows.now (sound s is_sound) are records

pub returns-clause-rows : goal.returns-clause-rows
returns-clause-rows c = λ s kept pipeline needs is_sound are records.
    c.in_ok-rows.ensures.rows (rows_ascend s kept pipeline c.args.jobs.now needs c.args.attempts.now c.args.rows.now (sound s is_sound) are records)
    ∙ (ap (map (row_for c.args.rows.now)) (c.as_slice-2.ensures.value ∙ c.in_ok-numbers.ensures)
    ∙ all_rows s kept pipeline c.args.jobs.now needs c.args.attempts.now c.args.rows.now (sound s is_sound) are records)

pub returns-in_err-facts-clause-fault : goal.returns-in_err-facts-clause-fault
returns-in_err-facts-clause-fault c =
    passed_on c.from_residual-in_err-facts.result c.in_err-facts.field-0.0 _ c.from_residual-in_err-facts.ensures.1 (λ s kept pipeline needs is_sound are records.
    c.in_err-facts.ensures.fault
    (subst (IsStrictlySortedBy nat_cmp) (sym (c.as_slice.ensures.value ∙ c.in_ok-numbers.ensures)) (numbers_ascend s kept pipeline c.args.jobs.now needs c.args.attempts.now c.args.rows.now (sound s is_sound) are records))
    (attempts_are_there s kept pipeline c.args.jobs.now needs c.args.attempts.now c.args.rows.now (sound s is_sound) are records))

pub returns-in_err-rows-clause-fault : goal.returns-in_err-rows-clause-fault
returns-in_err-rows-clause-fault c =
    passed_on c.from_residual-in_err-rows.result c.in_err-rows.field-0.0 _ c.from_residual-in_err-rows.ensures.1 (λ s kept pipeline needs is_sound are records.
    c.in_err-rows.ensures.fault
    (rows_ascend s kept pipeline c.args.jobs.now needs c.args.attempts.now c.args.rows.now (sound s is_sound) are records)
    (subst (All (λ n. is_among (map (λ (r : BoardRow). r.job) c.args.rows.now) n ≡ true)) (sym (c.as_slice-2.ensures.value ∙ c.in_ok-numbers.ensures))
    (rows_are_there s kept pipeline c.args.jobs.now needs c.args.attempts.now c.args.rows.now (sound s is_sound) are records)))
