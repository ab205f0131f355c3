-- The changes of an event of one pipeline, one after the other: they keep the groups and the unfinished pipelines right.
use Rattle.std.proofs.Common.{◌≡◌, List, [], ◌∷◌, ◌++◌, map, filter, flat_map, option_to_list, refl, sym, ap, subst, ◌∙◌}
use Rattle.ci_machine_steps.specs.Prelude.{Facts, Row, Status, Attempt, BoardRow, Holder, Job, Need, Pipeline, IndexChange, State, Kept, put_rows, numbers_of, facts_of, rows_of}
use Rattle.ci_machine_steps.specs.Prelude.{AreRowsOf, AreBoard, indexed, indexed_all, is_lease_on, is_unfinished, held_of, with_status, status_of_jobs, unfinished_in, AreIndexes}
use Rattle.ci_machine.specs.Holders as holders
use Rattle.ci_machine.proofs.Keyed.{Has, has_filter}
use Rattle.ci_machine_steps.proofs.Sound.{Sound}
use Rattle.ci_machine_statuses.specs.Boards.{changed_rows}
use Rattle.ci_machine_statuses.specs.Changes.{IsWithin}
use Rattle.ci_machine_statuses.specs.HolderChanges.{turned, held_among, freed, of_pipeline}
use Rattle.ci_machine_statuses.specs.Lookups.{AreRecords}
use Rattle.ci_machine_statuses.proofs.ActRecords.{all_leases}
use Rattle.ci_machine_statuses.proofs.Facts.{in_pipeline}
use Rattle.ci_machine_steps.proofs.Behind.{flat_same}
use Rattle.ci_machine_statuses.proofs.HeldRows.{without_all, all_freed}
use Rattle.ci_machine_statuses.proofs.Holding.{Ends, held_there, rows_left}
use Rattle.ci_machine_statuses.proofs.HeldOpening.{turned_rows, all_turned, turned_are}

one_by_one : (xs ys : List IndexChange) (k : Kept) → indexed_all (xs ++ ys) k ≡ indexed_all ys (indexed_all xs k)
one_by_one [] ys k = refl
one_by_one (x ∷ xs) ys k = one_by_one xs ys (indexed x k)

-- the leases on some jobs of a pipeline end, and its facts and rows change
module _ (k : Kept) (t : State) (p : Pipeline) (sound : Sound k.state) (has : Has p k.state.pipelines)
    (jobs : List Job) (needs : List Need) (attempts : List Attempt) (rows : List BoardRow) (records : AreRecords k.state k.board p.id jobs needs attempts rows)
    (chosen : List Job) (of : (j : Job) → Has j chosen → Has j jobs) where
  abbrev s : State
  s = k.state

  -- what the changes lead to
  leads_to : (before after : Status) (w : Kept) → indexed_all (of_pipeline p chosen attempts before after) w ≡ record w {
    holders = without_all (flat_map (held_of s) (filter (is_lease_on chosen) s.attempts)) w.holders;
    unfinished = turned_rows p.id (is_unfinished before) (is_unfinished after) w.unfinished;
  }
  leads_to before after w =
      let gone = filter (is_lease_on chosen) s.attempts in
      let held : flat_map (held_among p.project chosen) (filter (is_lease_on chosen) attempts) ≡ flat_map (held_of s) gone
      = ap (flat_map (held_among p.project chosen)) (all_leases s k.board p.id jobs needs attempts rows records chosen of)
      ∙ flat_same (held_among p.project chosen) (held_of s) gone
      (λ a h. held_there s sound p has chosen
      (λ j m. in_pipeline s p.id j (subst (λ (js : List Job). Has j js) records.are_jobs (of j m))) a (has_filter (is_lease_on chosen) a s.attempts h).1) in
      let turn = option_to_list (turned p.id before after) in
      one_by_one (freed p.project chosen attempts) turn w
      ∙ (ap (λ (l : List Holder). indexed_all turn (indexed_all (map holders.freed l) w)) held
      ∙ (ap (indexed_all turn) (all_freed (flat_map (held_of s) gone) w)
      ∙ all_turned p.id (is_unfinished before) (is_unfinished after) (record w { holders = without_all (flat_map (held_of s) gone) w.holders })))

  pub indexed_again : (are : AreBoard k.state k.board) (indexes : AreIndexes k) → IsWithin k.state t p.id → t.pipelines ≡ k.state.pipelines → Ends k.state t (is_lease_on chosen)
      → (facts : List Facts) (now : List Row) (changed : List BoardRow) → facts ≡ facts_of t p.id → AreRowsOf t p.id now
      → changed ≡ changed_rows (numbers_of k.state p.id) (rows_of k.state k.board p.id) now
      → (before after : Status) → before ≡ (with_status k.state k.board p).status → after ≡ status_of_jobs jobs facts now
      → AreIndexes (indexed_all (of_pipeline p chosen attempts before after) (record k { state = t; board = put_rows changed k.board }))
  indexed_again are indexes within pipelines ends facts now changed its_facts its_rows differing before after was is =
      subst AreIndexes (sym (leads_to before after (record k { state = t; board = put_rows changed k.board }))) (record {
        held = rows_left s t (is_lease_on chosen) sound.attempts ends k.holders indexes.held;
        unfinished = turned_are s t k.board p sound are within pipelines has facts now its_facts its_rows before after k.unfinished was
            (is ∙ ap (λ (js : List Job). status_of_jobs js facts now) records.are_jobs) indexes.unfinished
            ∙ ap (λ (rs : List BoardRow). unfinished_in t (put_rows rs k.board)) (sym differing);
      })
