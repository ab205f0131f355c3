-- A pipeline goes: what changes beside its records is right.
use Rattle.std.proofs.Common.{◌≡◌, ℕ, not, false, nat_lt, List, [], Some, Contains, sym, ap, subst}
use Rattle.std.proofs.lemmas.Bool.{and_parts}
use Rattle.ci_machine_steps.specs.Prelude.{IndexChange, RowChange, BoardRow, Pipeline, Reply, is_open_in, AreIndexes, Kept, cleared, put_rows, written, State, without_all, applied}
use Rattle.ci_machine_steps.specs.Prelude.{jobs_of, numbers_of, AreBoard, Plan, is_prunable, prunable_in, pipeline_goes, prune, IsSound}
use Rattle.ci_machine.proofs.Keyed.{has_find, contains_from_has, not_true}
use Rattle.ci_server_lookups.specs.Prelude.{IsKept}
use Rattle.ci_server_events.specs.declared.planned.Planned.{Planned}
use Rattle.ci_server_events.specs.Planning.{PlansFor}

abbrev pub PruneSettles : Type 0
PruneSettles = (s : State) (board : List BoardRow) (p : Pipeline) → IsSound s → AreBoard s board
    → AreBoard (applied (pipeline_goes p (jobs_of s p.id) s.attempts) s) (without_all (λ r. r.job) (numbers_of s p.id) board)

abbrev pub PruneIsIndexed : Type 0
PruneIsIndexed = (k : Kept) (p : Pipeline) → IsSound k.state → AreBoard k.state k.board → AreIndexes k → Contains k.state.pipelines p → is_open_in k.state k.board p ≡ false
    → AreIndexes (written (pipeline_goes p (jobs_of k.state p.id) k.state.attempts) [] [] (cleared (numbers_of k.state p.id) k))

pub prune_plans : PruneSettles → PruneIsIndexed → (k : Kept) → IsKept k → (p : Pipeline) → Contains k.state.pipelines p → is_open_in k.state k.board p ≡ false
    → (planned : Planned Reply) → (planned.answer, planned.changes) ≡ prune (Some p) (jobs_of k.state p.id) k.state.attempts
    → planned.beside.rows.items ≡ [] → planned.beside.indexes.items ≡ [] → planned.cleared.items ≡ numbers_of k.state p.id
    → PlansFor k ((planned.answer, planned.changes) ≡ prune (Some p) (jobs_of k.state p.id) k.state.attempts) planned
prune_plans settles indexed k kept p has finished planned is no_rows no_indexes its =
    let changes = planned.changes in
    let beside = planned.beside in
    let goes = pipeline_goes p (jobs_of k.state p.id) k.state.attempts in
    let same : changes ≡ goes = ap (λ (plan : Plan). plan.1) is in
    record {
      made = is;
      settled = record {
        board = subst (λ (ns : List ℕ). AreBoard (applied changes k.state) (put_rows beside.rows.items (cleared ns k).board)) (sym its)
            (subst (λ (rs : List BoardRow). AreBoard (applied changes k.state) (put_rows rs (cleared (numbers_of k.state p.id) k).board)) (sym no_rows)
            (subst (λ (cs : List RowChange). AreBoard (applied cs k.state) (cleared (numbers_of k.state p.id) k).board) (sym same) (settles k.state k.board p kept.sound kept.are_board)));
        indexes = subst (λ (ns : List ℕ). AreIndexes (written changes beside.rows.items beside.indexes.items (cleared ns k))) (sym its)
            (subst (λ (rs : List BoardRow). AreIndexes (written changes rs beside.indexes.items (cleared (numbers_of k.state p.id) k))) (sym no_rows)
            (subst (λ (xs : List IndexChange). AreIndexes (written changes [] xs (cleared (numbers_of k.state p.id) k))) (sym no_indexes)
            (subst (λ (cs : List RowChange). AreIndexes (written cs [] [] (cleared (numbers_of k.state p.id) k))) (sym same) (indexed k p kept.sound kept.are_board kept.are_indexes has finished))));
      };
    }

-- the one that is found is there, and finished
pub found_is : (k : Kept) (before : ℕ) (p : Pipeline) → prunable_in k.state k.board before ≡ Some p → Contains k.state.pipelines p × (is_open_in k.state k.board p ≡ false)
found_is k before p found =
    let w = has_find (is_prunable k.state k.board before) p k.state.pipelines found in (
      contains_from_has p k.state.pipelines w.0,
      not_true (is_open_in k.state k.board p) (and_parts (nat_lt p.created before) (not (is_open_in k.state k.board p)) w.1).1,
    )
