-- A pipeline is made: no group moves, and it is the last of the pipelines, unfinished or not.
use Rattle.std.proofs.Common.{◌≡◌, ℕ, ◌<◌, Bool, true, false, List, [], ◌∷◌, ◌++◌, length, map, filter, replicate, option_to_list, refl, sym, ap, subst, ◌∙◌, arith}
use Rattle.std.proofs.lemmas.List.{map_push}
use Rattle.ci_machine_steps.specs.Prelude.{no_facts, Status, BoardRow, Pipeline, Unfinished, State, applied, Kept, put_rows, written, AreBoard, status_of_jobs, Creation}
use Rattle.ci_machine_steps.specs.Prelude.{creation_changes, is_unfinished, is_open_in, unfinished_in, AreIndexes}
use Rattle.ci_machine.proofs.Keyed.{Has, filter_same, has_filter, map_has}
use Rattle.ci_machine_steps.proofs.Sound.{Sound}
use Rattle.ci_machine_statuses.proofs.Creations.{Created}
use Rattle.ci_machine_statuses.proofs.CreationLines.{same_held}
use Rattle.ci_machine_statuses.proofs.Made.{unmoved, its_jobs, its_facts, its_rows}
use Rattle.ci_machine_statuses.proofs.Puts.{more_in, more_out, put_last}
use Rattle.ci_machine_statuses.specs.HolderChanges.{opened}
use Rattle.ci_machine_statuses.proofs.Holding.{rows_stay}
use Rattle.ci_machine_statuses.proofs.HeldOpening.{as_row, of_row, same_open, passing, turned_rows, all_turned}

-- a pipeline behind all others comes last
comes_last : (f : Pipeline → Bool) (p : Pipeline) (ps : List Pipeline) (b : Bool) → ((q : Pipeline) → Has q ps → q.id < p.id) → f p ≡ b
    → turned_rows p.id false b (passing f ps) ≡ passing f (ps ++ p ∷ [])
comes_last f p ps true below e =
    put_last of_row (as_row p) (passing f ps)
    (λ u h. let w = map_has as_row u (filter f ps) h in subst (λ (x : Unfinished). x.pipeline < p.id) w.1.1 (below w.0 (has_filter f w.0 ps w.1.0).0))
    ∙ (sym (map_push as_row (filter f ps) p) ∙ ap (map as_row) (sym (more_in f ps p e)))
comes_last f p ps false below e = ap (map as_row) (sym (more_out f ps p e))

module _ (k : Kept) (sound : Sound k.state) (are : AreBoard k.state k.board) (indexes : AreIndexes k) (c : Creation) (it : Created k.state c) where
  open it use {below, pipelines, made}

  abbrev s : State
  s = k.state

  abbrev t : State
  t = applied (creation_changes s.next.job c) s

  abbrev n : ℕ
  n = c.pipeline.id

  module _ (rows : List BoardRow) (keys : map (λ r. r.job) rows ≡ map (λ j. j.id) c.jobs) where
    abbrev after : List BoardRow
    after = put_rows rows k.board

    abbrev its_status : Status
    its_status = status_of_jobs c.jobs (replicate (length c.jobs) no_facts) (map (λ r. r.row) rows)

    others : (q : Pipeline) → Has q s.pipelines → is_open_in t after q ≡ is_open_in s k.board q
    others q h = same_open s t k.board after q (unmoved s t k.board n c.jobs c.needs sound are made rows keys q.id (λ e. absurd (omega (arith, below q h))))

    its : is_open_in t after c.pipeline ≡ is_unfinished its_status
    its = λ i. is_unfinished (status_of_jobs (its_jobs s t k.board n c.jobs c.needs sound are made i) (its_facts s t k.board n c.jobs c.needs sound are made i) (its_rows s t k.board n c.jobs c.needs sound are made rows keys i))

    unfinished : turned_rows n false (is_unfinished its_status) k.unfinished ≡ unfinished_in t after
    unfinished =
        let g = is_open_in t after in
        let old : passing (is_open_in s k.board) s.pipelines ≡ passing g s.pipelines = ap (map as_row) (sym (filter_same g (is_open_in s k.board) s.pipelines others)) in
        ap (turned_rows n false (is_unfinished its_status)) (indexes.unfinished ∙ old)
        ∙ (comes_last g c.pipeline s.pipelines (is_unfinished its_status) below its ∙ ap (passing g) (sym pipelines))

    pub creation_indexed : AreIndexes (written (creation_changes s.next.job c) rows (option_to_list (opened n its_status)) k)
    creation_indexed = subst AreIndexes (sym (all_turned n false (is_unfinished its_status) (record k { state = t; board = after }))) (record {
      held = rows_stay s t k.holders sound.attempts
          (λ a h live. record { attempt = a; has = subst (Has a) (sym made.same_attempts) h; id = refl; job = refl; live = live })
          (λ b h live. record { attempt = b; has = subst (Has b) made.same_attempts h; id = refl; job = refl; live = live })
          (λ a h live. same_held s sound c it a h) indexes.held;
      unfinished = unfinished;
    })
