use Rattle.std.proofs.Common.{subst, ap, ◌∙◌, ◌≡◌, length, map, sym, [], ◌∷◌}
use Rattle.ci_machine.specs.Prelude.{JobGraph}
use Rattle.ci_machine_steps.specs.Prelude.{pipeline_status, AreRows, BoardState, replaced, statuses, facts_of, rows_of}
use Rattle.ci_machine_steps.proofs.Sound.{sound}
use Rattle.ci_machine_statuses.specs.Boards.{changed_rows}
use Rattle.ci_machine_statuses.proofs.Ends.{ends}
use Rattle.ci_machine_statuses.proofs.Loaded.{is_board_with}
use Rattle.ci_machine_statuses.proofs.end.end_on.Goals as goal

-- the board that is made is the pipeline's, and what becomes of it is what becomes of that
pub returns-clause-settled : goal.returns-clause-settled
returns-clause-settled g c = λ s board pipeline needs is_sound are records of live.
    let b = c.load-board.result in
    let graph = ap (λ (x : BoardState). x.graph) c.load-board.ensures ∙ c.of_net.ensures in
    let change = c.in-Some.change in
    let parts = c.into_parts-graph.ensures in
    let is = is_board_with s board pipeline c.args.jobs.now needs c.args.attempts.now c.args.rows.now (sound s is_sound) are records b
    (record { parts = ap (λ (x : JobGraph). x.parts) graph ∙ of.parts; predecessors = λ up. ap (λ (x : JobGraph). x.predecessors) graph ∙ of.predecessors up })
    (ap (λ (x : BoardState). x.facts) c.load-board.ensures ∙ c.in_ok-facts.ensures.facts s board pipeline needs is_sound are records)
    (ap (λ (x : BoardState). x.rows) c.load-board.ensures ∙ c.in_ok-facts.ensures.rows s board pipeline needs is_sound are records) in
    ends s board pipeline (sound s is_sound) are c.args.after.now live c.args.jobs.now b change
    (record { facts = c.into_parts-graph.result.1; rows = c.into_parts-graph.result.2; changed = c.in_ok-changed.changed })
    records.are_jobs c.in-Some.ensures.within c.in-Some.ensures.job is c.in-Some.ensures.facts
    (λ before. parts.facts ∙ c.in_ok-changed.ensures.facts before)
    (ap length parts.rows ∙ c.in_ok-changed.ensures.long)
    (λ before. subst (λ rows. AreRows b.graph (replaced (change ∷ []) b.facts) rows) (sym parts.rows) (c.in_ok-changed.ensures.right before))
    (c.in_ok-changed.ensures.rows ∙ ap (changed_rows (map (λ j. j.id) c.args.jobs.now) b.rows) (sym parts.rows))

-- the board's status before it is the pipeline's
pub returns-clause-before : goal.returns-clause-before
returns-clause-before g c = λ s board pipeline needs is_sound are records of.
    let b = c.load-board.result in
    let facts : b.facts ≡ facts_of s pipeline = ap (λ (x : BoardState). x.facts) c.load-board.ensures ∙ c.in_ok-facts.ensures.facts s board pipeline needs is_sound are records in
    let rows : b.rows ≡ rows_of s board pipeline = ap (λ (x : BoardState). x.rows) c.load-board.ensures ∙ c.in_ok-facts.ensures.rows s board pipeline needs is_sound are records in
    let parts : b.graph.parts ≡ map (λ j. j.options.part) c.args.jobs.now = ap (λ (x : BoardState). x.graph.parts) c.load-board.ensures ∙ (ap (λ (x : JobGraph). x.parts) c.of_net.ensures ∙ of.parts) in
    c.pipeline_status-before.ensures ∙ (λ i. pipeline_status (parts i) (facts i) (statuses (rows i)))
