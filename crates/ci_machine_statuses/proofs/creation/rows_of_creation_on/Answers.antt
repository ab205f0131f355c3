use Rattle.std.proofs.Common.{length, sym, ap, subst, ◌∙◌, nat_cmp}
use Rattle.std.specs.List.Sorted.{IsStrictlySortedBy}
use Rattle.ci_machine_steps.proofs.Sound.{sound}
use Rattle.ci_machine_steps.specs.Prelude.{pairs_among, predecessors_by}
use Rattle.ci_machine_statuses.proofs.Made.{new_board}
use Rattle.ci_machine_statuses.proofs.creation.rows_of_creation_on.Goals as goal

pub returns-clause-board : goal.returns-clause-board
returns-clause-board g c = λ s t board pipeline is_sound are made.
    let numbers = c.as_slice.ensures.value ∙ c.in_ok-numbers.ensures in
    new_board s t board pipeline c.args.jobs.now c.args.needs.now (sound s is_sound) are made c.in_ok-all_rows.field-0.items c.in_ok-all_rows.ensures.jobs
    c.in_ok-board.board c.in_ok-all_rows.ensures.rows
    (ap (λ x. x.parts) c.in_ok-board.ensures.graph ∙ c.in_ok-graph.ensures.parts)
    (ap (λ x. x.predecessors) c.in_ok-board.ensures.graph
    ∙ (c.in_ok-graph.ensures.predecessors (subst (IsStrictlySortedBy nat_cmp) (sym numbers) made.ascend)
    ∙ ap (λ ns. predecessors_by (pairs_among ns c.args.needs.now) (length c.args.jobs.now)) numbers))
    (c.in_ok-board.ensures.facts ∙ c.in_ok-facts.ensures)
    c.in_ok-board.ensures.rows
