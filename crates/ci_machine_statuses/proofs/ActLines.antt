-- A user acts on jobs of a pipeline: the rows after it, and of which other jobs its jobs wait then, which is as before.
use Rattle.std.proofs.Common.{◌≡◌, ℕ, Bool, ◌&&◌, ◌==◌, List, ◌++◌, length, map, filter, Option, refl, sym, ap, ◌∙◌, ⊎_elim, eqb-true}
use Rattle.std.proofs.lemmas.Bool.{cond-false, cases_Bool, eqb-false}
use Rattle.std.proofs.lemmas.List.{length-map}
use Rattle.std.proofs.lemmas.List.Folds.{flat_map-map}
use Rattle.ci_machine_steps.specs.Prelude.{Row, BoardRow, GroupMode, Job, WaitingJob, State, put_rows, jobs_of, numbers_of, rows_of, row_for, status_for, held_claim, waiting_claim}
use Rattle.ci_machine_steps.specs.Prelude.{is_first, claims_on, holders, queued, waits_as, waiting, groups_with, claims_in}
use Rattle.ci_machine.proofs.Keyed.{Has, has_map}
use Rattle.ci_machine_steps.proofs.Sound.{Sound}
use Rattle.ci_machine_statuses.specs.declared.act.Act.{Act}
use Rattle.ci_machine_statuses.specs.declared.outcome.Outcome.{Outcome}
use Rattle.ci_machine_statuses.specs.Acts.{marked, is_acted_on, acted_state, IsOutcome}
use Rattle.ci_machine_statuses.specs.Boards.{changed_rows}
use Rattle.ci_machine_statuses.proofs.Puts.{number}
use Rattle.ci_machine_statuses.proofs.RowPuts.{changed_own, changed_other}
use Rattle.ci_machine_statuses.proofs.Joint.{numbers_rise, apart}
use Rattle.ci_machine_statuses.proofs.ActFacts.{t, after_is, within, of_job, keeps, outside}
use Rattle.ci_machine_statuses.proofs.Lines.{own_first, passing_alike}
use Rattle.ci_machine_statuses.proofs.Facts.{its_own}

module _ (act : Act) (only : Option ℕ) (s : State) (board : List BoardRow) (n : ℕ) (o : Outcome) (sound : Sound s) (outcome : IsOutcome act only s board n o) where
  abbrev test : Job → Bool
  test = is_acted_on act only board

  abbrev new : State
  new = acted_state act only s board n

  abbrev then : State
  then = t s act n test sound

  abbrev after : List BoardRow
  after = put_rows o.changed.items board

  new_is : new ≡ then
  new_is = after_is s act n test sound

  its_numbers : numbers_of new n ≡ numbers_of s n
  its_numbers = ap (λ (w : State). numbers_of w n) new_is ∙ (within s act n test sound).its_numbers n

  after_puts : after ≡ put_rows (changed_rows (numbers_of s n) (rows_of s board n) o.rows.items) board
  after_puts = ap (λ (rs : List BoardRow). put_rows rs board) outcome.differing

  pub own_rows : map (row_for after) (numbers_of s n) ≡ o.rows.items
  own_rows =
      ap (λ (b : List BoardRow). map (row_for b) (numbers_of s n)) after_puts
      ∙ changed_own (numbers_of s n) o.rows.items board (numbers_rise s n sound) (outcome.rows.long ∙ (sym (length-map (jobs_of new n) number) ∙ ap length its_numbers))

  pub rows_after : rows_of new after n ≡ o.rows.items
  rows_after = ap (map (row_for after)) its_numbers ∙ own_rows

  -- a job of another pipeline stays as it is
  other_row : (j : Job) → Has j s.jobs → (n ≡ j.pipeline → ⊥) → row_for after j.id ≡ row_for board j.id
  other_row j has d =
      ap (λ (b : List BoardRow). row_for b j.id) after_puts
      ∙ changed_other (numbers_of s n) o.rows.items board j.id (λ z. apart s n j.pipeline j.id sound d z (has_map number j (jobs_of s j.pipeline) (its_own s j has)))

  abbrev F : Job → Job
  F = of_job s act n test sound

  other_job : (j : Job) → (n ≡ j.pipeline → ⊥) → F j ≡ j
  other_job j d = cond-false (j.pipeline == n && test j) (marked act s j) j (outside s act n test sound j d)

  module _ (modes : List GroupMode) where
    abbrev before_by : State → List BoardRow → Job → List WaitingJob
    before_by w b j = filter (is_first modes n) (waits_as (queued w j) (status_for b j.id))

    one : (j : Job) → Has j s.jobs → before_by then after (F j) ≡ before_by s board j
    one j has =
        ⊎_elim
        (λ e. own_first modes n (queued then (F j)) (status_for after (F j).id) (keeps s act n test sound (λ i. i.pipeline) (λ i a b c. refl) j ∙ eqb-true j.pipeline n e)
        ∙ sym (own_first modes n (queued s j) (status_for board j.id) (eqb-true j.pipeline n e)))
        (λ e. let d : n ≡ j.pipeline → ⊥ = λ q. eqb-false j.pipeline n e (sym q) in
        ap (before_by then after) (other_job j d) ∙ ap (λ (r : Row). filter (is_first modes n) (waits_as (queued s j) r.status)) (other_row j has d))
        (cases_Bool (j.pipeline == n))

    ahead : filter (is_first modes n) (waiting new after) ≡ filter (is_first modes n) (waiting s board)
    ahead =
        ap (λ (w : State). filter (is_first modes n) (waiting w after)) new_is
        ∙ (ap (filter (is_first modes n)) (flat_map-map (λ (j : Job). waits_as (queued then j) (status_for after j.id)) F s.jobs)
        ∙ passing_alike (is_first modes n) (λ j. waits_as (queued s j) (status_for board j.id)) (λ j. waits_as (queued then (F j)) (status_for after (F j).id)) s.jobs one)

  pub claims_after : claims_in new after n ≡ claims_on (groups_with new (waiting s board)) n
  claims_after = ap (λ (ws : List WaitingJob). map held_claim (holders new) ++ map waiting_claim ws) (ahead new.modes)
