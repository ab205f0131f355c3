-- A new pipeline: what its file lays out is made, with what stands beside it.
use Rattle.std.proofs.Common.{◌≡◌, ℕ, List, [], map, length, replicate, option_to_list, Some, Ok, refl, sym, subst, ◌∙◌}
use Rattle.ci_graph_layout.specs.Prelude.{Given}
use Rattle.ci_machine_steps.specs.Prelude.{no_facts, IndexChange, RowChange, BoardRow, Variable, Reply, NewPipeline, status_of_jobs, AreIndexes, Kept, put_rows, written, claims_in}
use Rattle.ci_machine_steps.specs.Prelude.{Layout, IsLaidOut, creation, creation_changes, given_by, pipeline_created, ShowsCreated, Creates, Plan, IsSound, State, applied, rows_of}
use Rattle.ci_machine_steps.specs.Prelude.{AreBoard}
use Rattle.ci_machine_steps.specs.Pipelines as pipelines
use Rattle.ci_server_lookups.specs.Prelude.{IsMade, opened, IsKept}
use Rattle.ci_machine_pipelines.specs.declared.creation.Creation.{Creation}
use Rattle.ci_machine_pipelines.specs.Creations.{origin, creation_view, LaysOut}
use Rattle.ci_server_events.specs.declared.planned.Planned.{Planned}
use Rattle.ci_server_events.specs.Creating.{rows_beside, IsMadeBeside}
use Rattle.ci_server_events.specs.Planning.{PlansFor, Settles}
use Rattle.ci_server_events.proofs.Leaving.{plans_with}

abbrev pub CreatedIsMade : Type 0
CreatedIsMade = (s : State) (new : NewPipeline) (given : Given) (now : ℕ) (text : List ℕ) (laid : Layout) (made : pipelines.Creation) → IsSound s → IsLaidOut text given (Ok laid)
    → made ≡ creation s.next.pipeline s.next.job new given now laid → IsMade s (applied (creation_changes s.next.job made) s) s.next.pipeline made.jobs made.needs

abbrev pub CreationIsIndexed : Type 0
CreationIsIndexed = (k : Kept) (new : NewPipeline) (given : Given) (now : ℕ) (text : List ℕ) (laid : Layout) (made : pipelines.Creation) (rows : List BoardRow)
    → IsSound k.state → AreBoard k.state k.board → AreIndexes k → IsLaidOut text given (Ok laid) → made ≡ creation k.state.next.pipeline k.state.next.job new given now laid
    → map (λ r. r.job) rows ≡ map (λ j. j.id) made.jobs
    → AreIndexes (written (creation_changes k.state.next.job made) rows (option_to_list (opened made.pipeline.id (status_of_jobs made.jobs (replicate (length made.jobs) no_facts) (map (λ r. r.row) rows)))) k)

abbrev pub CreatesRows : Type 0
CreatesRows = (s : State) (board : List BoardRow) (new : NewPipeline) (given : Given) (now : ℕ) (text : List ℕ) (laid : Layout) (made : pipelines.Creation) (rows : List BoardRow)
    → IsSound s → AreBoard s board → IsLaidOut text given (Ok laid) → made ≡ creation s.next.pipeline s.next.job new given now laid → map (λ r. r.job) rows ≡ map (λ j. j.id) made.jobs
    → rows_of (applied (creation_changes s.next.job made) s) (put_rows rows board) made.pipeline.id ≡ map (λ r. r.row) rows

abbrev pub CreatesClaims : Type 0
CreatesClaims = (s : State) (board : List BoardRow) (new : NewPipeline) (given : Given) (now : ℕ) (text : List ℕ) (laid : Layout) (made : pipelines.Creation) (rows : List BoardRow)
    → IsSound s → AreBoard s board → IsLaidOut text given (Ok laid) → made ≡ creation s.next.pipeline s.next.job new given now laid → map (λ r. r.job) rows ≡ map (λ j. j.id) made.jobs
    → claims_in (applied (creation_changes s.next.job made) s) (put_rows rows board) made.pipeline.id ≡ claims_in s board made.pipeline.id

abbrev pub LaidOutCreates : Type 0
LaidOutCreates = (s : State) (text : List ℕ) (new : NewPipeline) (vs : List Variable) (now : ℕ) (made : Creation) (plan : Plan) → LaysOut text (origin s.next.pipeline s.next.job new vs now) (Ok (Some made))
    → ShowsCreated s s.next.job (creation_view made) plan → Creates s new (given_by new vs) now (Ok text) plan

module _ (k : Kept) (is : IsKept k) (text : List ℕ) (new : NewPipeline) (variables : List Variable) (now : ℕ) where
  abbrev its_changes : Creation → List RowChange
  its_changes made = creation_changes k.state.next.job (creation_view made)

  -- what the file lays out is made, and what stands beside it is right then
  pub creation_planned : LaidOutCreates → CreatedIsMade → CreationIsIndexed → CreatesRows → CreatesClaims → (made : Creation) (p : Planned Reply)
      → LaysOut text (origin k.state.next.pipeline k.state.next.job new variables now) (Ok (Some made)) → p.cleared.items ≡ [] → IsMadeBeside made p.beside
      → (p.answer, p.changes) ≡ pipeline_created k.state.next.job (creation_view made) (claims_in k.state k.board made.pipeline.id) (rows_beside p.beside)
      → PlansFor k (Creates k.state new (given_by new variables) now (Ok text) (p.answer, p.changes)) p
  creation_planned creates is_made is_indexed rows_law claims_law made p out none right planned =
      plans_with k (Creates k.state new (given_by new variables) now (Ok text)) (p.answer, p.changes) p refl none
      (creates k.state text new variables now made (p.answer, p.changes) out (after, right.board k.state t k.board k.state.next.pipeline is.sound is.are_board its_made, shown))
      (subst (λ (q : Plan). Settles k q.1 p.beside) (sym planned) (record {
        board = right.board k.state (applied (its_changes made) k.state) k.board k.state.next.pipeline is.sound is.are_board its_made;
        indexes = subst (λ (cs : List IndexChange). AreIndexes (written (its_changes made) p.beside.rows.items cs k)) (sym right.indexes)
            (is_indexed k new (given_by new variables) now text out.0 (creation_view made) p.beside.rows.items is.sound is.are_board is.are_indexes out.1 out.2.0 right.keys);
      }))
    where
      t : State
      t = applied (its_changes made) k.state

      after : List BoardRow
      after = put_rows p.beside.rows.items k.board

      -- its rows, and for which groups its jobs must wait, in the state after
      its_rows : rows_of t after made.pipeline.id ≡ rows_beside p.beside
      its_rows = rows_law k.state k.board new (given_by new variables) now text out.0 (creation_view made) p.beside.rows.items is.sound is.are_board out.1 out.2.0 right.keys

      its_claims : claims_in t after made.pipeline.id ≡ claims_in k.state k.board made.pipeline.id
      its_claims = claims_law k.state k.board new (given_by new variables) now text out.0 (creation_view made) p.beside.rows.items is.sound is.are_board out.1 out.2.0 right.keys

      shown : (p.answer, p.changes) ≡ pipeline_created k.state.next.job (creation_view made) (claims_in t after made.pipeline.id) (rows_of t after made.pipeline.id)
      shown = planned ∙ (λ i. pipeline_created k.state.next.job (creation_view made) (sym its_claims i) (sym its_rows i))

      its_made : IsMade k.state (applied (its_changes made) k.state) k.state.next.pipeline made.jobs.items made.needs.items
      its_made = is_made k.state new (given_by new variables) now text out.0 (creation_view made) is.sound out.1 out.2.0
