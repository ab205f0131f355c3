use Rattle.std.proofs.Common.{◌≡◌, List, Result, Ok, Err, OnOk, sym, ap, ◌∙◌, arith, length}
use Rattle.ci_machine.specs.Prelude.{JobGraph}
use Rattle.ci_machine_steps.specs.Prelude.{Facts, Row, AreRows}
use Rattle.ci_board.proofs.Assignments.{rows_moved}
use Rattle.ci_machine_statuses.proofs.RowPuts.{all_within}
use Rattle.ci_machine_statuses.proofs.settle.settle.Goals as goal

right_before : (g h : JobGraph) (facts fresh : List Facts) (rows : List Row) → h ≡ record g { meter = h.meter } → fresh ≡ facts → AreRows h fresh rows → AreRows g facts rows
right_before g h facts fresh rows e f r = rows_moved h g fresh facts rows (sym (ap (λ (x : JobGraph). record x { meter = g.meter }) e)) f r

whatever_ends : {T E : Type 0} (P : Type 0) (r : Result T E) → P → OnOk r P
whatever_ends P (Ok x) p = p
whatever_ends P (Err e) p = tt

pub rows_at-requires-clause-jobs : goal.rows_at-requires-clause-jobs
rows_at-requires-clause-jobs g c = all_within (length c.args.jobs.now) c.args.board.now.rows c.apply.new.self.rows c.as_slice.result.now (omega (arith, ap (λ g. length g.parts) c.in_ok-positions.ensures.graph)) (c.as_slice.ensures.value ∙ c.in_ok-positions.ensures.answer)

pub rows_at-requires-clause-rows : goal.rows_at-requires-clause-rows
rows_at-requires-clause-rows g c = all_within (length c.apply.new.self.rows) c.args.board.now.rows c.apply.new.self.rows c.as_slice.result.now (omega arith) (c.as_slice.ensures.value ∙ c.in_ok-positions.ensures.answer)

pub returns-clause-right : goal.returns-clause-right
returns-clause-right g c =
    whatever_ends _ c.rows_at.result
    (λ before. right_before c.args.board.now.graph c.apply.new.self.graph _ c.apply.new.self.facts c.apply.new.self.rows
    c.in_ok-positions.ensures.graph (c.in_ok-positions.ensures.facts before) (c.in_ok-positions.ensures.rows before))
