use Rattle.std.proofs.Common.{refl, sym, ap, subst, ◌∙◌, length, map}
use Rattle.ci_machine_steps.specs.Prelude.{AreRows, replaced}
use Rattle.ci_machine_steps.proofs.Sound.{sound}
use Rattle.ci_machine_statuses.specs.Acts.{is_acted_at, facts_change}
use Rattle.ci_machine_statuses.specs.Boards.{changed_rows}
use Rattle.ci_machine_statuses.proofs.ActPlaces.{outcome_is, all_there, all_positions}
use Rattle.ci_machine_statuses.proofs.outcome.outcome_on.Goals as goal

pub changes_at-requires : goal.changes_at-requires
changes_at-requires g c =
    let b = c.in_ok-board.board in
    all_there (is_acted_at c.args.act c.args.only (map (λ j. j.id) c.args.jobs.now) b.rows) (length c.args.jobs.now) (length b.facts) c.as_slice.result.now
    (c.as_slice.ensures.value ∙ c.in_ok-places.ensures) (sym (c.size-size.ensures.facts ∙ c.in_ok-board.ensures.long))

pub settle-requires-clause-changes : goal.settle-requires-clause-changes
settle-requires-clause-changes g c =
    let b = c.in_ok-board.board in
    all_positions c.args.act b.facts (length b.graph.parts) c.as_slice.result.now c.as_slice-2.result.now
    (is_acted_at c.args.act c.args.only (map (λ j. j.id) c.args.jobs.now) b.rows) (length c.args.jobs.now)
    (c.as_slice.ensures.value ∙ c.in_ok-places.ensures) (sym c.in_ok-board.ensures.long) (c.as_slice-2.ensures.value ∙ c.in_ok-changes.ensures)

pub returns-clause-outcome : goal.returns-clause-outcome
returns-clause-outcome g c = λ s board pipeline is_sound are records.
    let b = c.in_ok-board.board in
    let changes = c.as_slice-2.result.now in
    outcome_is c.args.act c.args.only s board pipeline (sound s is_sound) are c.args.jobs.now b changes
    (record { places = c.in_ok-places.places; facts = c.in_ok-facts.facts; rows = c.in_ok-rows.rows; changed = c.in_ok-changed.changed })
    records.are_jobs (c.in_ok-board.ensures.board s board pipeline is_sound are records)
    c.in_ok-places.ensures
    (c.as_slice-2.ensures.value ∙ (c.in_ok-changes.ensures ∙ ap (map (facts_change c.args.act b.facts)) c.as_slice.ensures.value))
    (λ before. c.in_ok-facts.ensures ∙ c.in_ok-changed.ensures.facts before)
    (ap length c.in_ok-rows.ensures ∙ c.in_ok-changed.ensures.long)
    (λ before. subst (λ rows. AreRows b.graph (replaced changes b.facts) rows) (sym c.in_ok-rows.ensures) (c.in_ok-changed.ensures.right before))
    (c.in_ok-changed.ensures.rows ∙ ap (changed_rows (map (λ j. j.id) c.args.jobs.now) b.rows) (sym c.in_ok-rows.ensures))

-- each place is that of a job, and each job has its facts and its row
pub returns-clause-places : goal.returns-clause-places
returns-clause-places g c =
    all_there (is_acted_at c.args.act c.args.only (map (λ j. j.id) c.args.jobs.now) c.in_ok-board.board.rows) (length c.args.jobs.now) (length c.args.jobs.now) c.in_ok-places.places.items
    c.in_ok-places.ensures refl
