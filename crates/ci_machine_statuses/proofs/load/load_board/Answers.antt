use Rattle.std.proofs.Common.{sym, ap, subst, ◌∙◌, map, nat_cmp}
use Rattle.std.specs.List.Sorted.{IsStrictlySortedBy}
use Rattle.ci_machine_steps.specs.Prelude.{row_for}
use Rattle.ci_machine_steps.proofs.Sound.{sound}
use Rattle.ci_machine_statuses.proofs.Loaded.{is_board}
use Rattle.ci_machine_statuses.proofs.load.load_board.Goals as goal

pub returns-clause-board : goal.returns-clause-board
returns-clause-board g c = λ s kept pipeline is_sound are records.
    is_board s kept pipeline c.args.jobs.now c.args.needs.now c.args.attempts.now c.args.rows.now (sound s is_sound) are records c.as_slice.result.now c.load.result
    (c.as_slice.ensures.value ∙ c.in_ok-numbers.ensures)
    (ap (λ b. b.graph.parts) c.load.ensures ∙ c.in_ok-graph.ensures.parts)
    (λ up. ap (λ b. b.graph.predecessors) c.load.ensures ∙ c.in_ok-graph.ensures.predecessors up)
    (λ up. ap (λ b. b.facts) c.load.ensures ∙ c.in_ok-facts.ensures.facts (subst (IsStrictlySortedBy nat_cmp) (c.as_slice.ensures.value ∙ sym c.as_slice-2.ensures.value) up))
    (λ up. ap (λ b. b.rows) c.load.ensures ∙ (c.in_ok-rows.ensures.rows up ∙ ap (map (row_for c.args.rows.now)) (c.as_slice-3.ensures.value ∙ sym c.as_slice.ensures.value)))
