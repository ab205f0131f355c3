-- A grant: the job's own row is put, and its group is held.
use Rattle.std.proofs.Common.{◌≡◌, ◌↔◌, if◌then◌else◌, ℕ, Bool, true, false, nat_lt, List, [], ◌∷◌, Some, Contains, refl, sym, ap, subst, ◌∙◌}
use Rattle.std.proofs.lemmas.Bool.{cond_both, and_parts}
use Rattle.std.proofs.lemmas.List.Elements.{All-contains, All-contains_itself, All-filter, filter_passes}
use Rattle.ci_machine_steps.specs.Prelude.{Live, MAX_NUMBER, Status, Counter, IndexChange, Record, RowChange, Attempt, BoardRow, Job, JobVariable, QueuedJob, Runner, M15, Seed}
use Rattle.ci_machine_steps.specs.Prelude.{may_run, resource_free, is_eligible, grant, granted, holds_group, AreIndexes, Kept, put_rows, written, groups_in, Plan, refused}
use Rattle.ci_machine_steps.specs.Prelude.{numbered, IsSound, State, applied, AreBoard, offer, queue, queued, is_pending, pending_jobs}
use Rattle.ci_server_lookups.specs.Prelude.{started_row, IsKept, IsOffered}
use Rattle.ci_server_lookups.specs.declared.search.Offer.{Offer}
use Rattle.ci_server_events.specs.declared.planned.Beside.{Beside}
use Rattle.ci_server_events.specs.Planning.{Settles}
use Rattle.ci_server_events.proofs.Found.{found_is_there, found_in_map}

abbrev pub GrantSettles : Type 0
GrantSettles =
    (s : State) (board : List BoardRow) (job : Job) (attempt : Attempt) → IsSound s → AreBoard s board → Contains s.jobs job → is_pending board job ≡ true
    → attempt.id ≡ s.next.attempt → attempt.job ≡ job.id → attempt.state ≡ Live
    → AreBoard (applied (numbered (Record.Attempt attempt) Counter.Attempt s.next.attempt) s) (put_rows (started_row board job.id ∷ []) board)

abbrev pub GrantIsIndexed : Type 0
GrantIsIndexed =
    (k : Kept) (job : Job) (attempt : Attempt) → IsSound k.state → AreBoard k.state k.board → AreIndexes k → Contains k.state.jobs job → is_pending k.board job ≡ true
    → resource_free (groups_in k.state k.board) (queued k.state job) ≡ true → attempt.id ≡ k.state.next.attempt → attempt.job ≡ job.id → attempt.state ≡ Live
    → AreIndexes (written (numbered (Record.Attempt attempt) Counter.Attempt k.state.next.attempt) (started_row k.board job.id ∷ []) (holds_group attempt.id (queued k.state job)) k)

-- The job that a runner is offered is one of the state's, is pending, and its group is free.
record IsPendingOffer (s : State) (board : List BoardRow) (q : QueuedJob) : Type 0 where
  pub there : Contains s.jobs q.job
  pub pending : is_pending board q.job ≡ true
  pub is : queued s q.job ≡ q
  pub free : resource_free (groups_in s board) (queued s q.job) ≡ true

offered_is_pending : (s : State) (board : List BoardRow) (runner : Runner) (q : QueuedJob) → offer s board (Some runner) ≡ Some q → IsPendingOffer s board q
offered_is_pending s board runner q e =
    let found = found_in_map (queued s) (is_eligible runner (groups_in s board)) (pending_jobs s board) q e in
    let its : found.0 ≡ q.job = ap (λ (w : QueuedJob). w.job) found.2 in
    let there : Contains s.jobs found.0 = All-contains (Contains s.jobs) (pending_jobs s board) found.0 (All-filter (is_pending board) (Contains s.jobs) s.jobs (All-contains_itself s.jobs)) found.1 in
    let pending : is_pending board found.0 ≡ true = All-contains (λ (j : Job). is_pending board j ≡ true) (pending_jobs s board) found.0 (filter_passes (is_pending board) s.jobs) found.1 in
    let is : queued s q.job ≡ q = ap (queued s) (sym its) ∙ found.2 in
    let eligible : is_eligible runner (groups_in s board) q ≡ true = (found_is_there (is_eligible runner (groups_in s board)) q (queue s board) e).1 in
    record {
      there = subst (Contains s.jobs) its there;
      pending = subst (λ (j : Job). is_pending board j ≡ true) its pending;
      is = is;
      free = ap (resource_free (groups_in s board)) is ∙ (and_parts (may_run runner q.project q.job.options.tags) (resource_free (groups_in s board) q) eligible).1;
    }

-- what is put and held beside a grant: nothing, where it is refused
abbrev its_row : Offer → BoardRow
its_row found = record found.row { row = record found.row.row { status = Status.Running } }

abbrev pub rows_granted : Bool → Offer → List BoardRow
rows_granted refusing found = if refusing then [] else its_row found ∷ []

abbrev pub indexes_granted : Bool → ℕ → Offer → List IndexChange
indexes_granted refusing attempt found = if refusing then [] else holds_group attempt found.queued

-- both are right after these changes
abbrev AreSettled : Kept → List RowChange → List BoardRow → List IndexChange → Type 0
AreSettled k changes rows indexes = AreBoard (applied changes k.state) (put_rows rows k.board) × AreIndexes (written changes rows indexes k)

module _ (k : Kept) (is : IsKept k) (runner : Runner) (found : Offer) (offered : IsOffered k runner (Some found)) (variables : List JobVariable) (now : ℕ) (seed : Seed) where
  abbrev next : ℕ
  next = k.state.next.attempt

  abbrev changes : List RowChange
  changes = (granted runner found.queued variables next now seed).1

  same_row : started_row k.board found.queued.job.id ≡ its_row found
  same_row = cc (offered.1, offered.2)

  settled : GrantSettles → GrantIsIndexed → AreSettled k changes (its_row found ∷ []) (holds_group next found.queued)
  settled settles indexed =
      let o = offered_is_pending k.state k.board runner found.queued offered.0 in (
        subst (λ r. AreBoard (applied changes k.state) (put_rows (r ∷ []) k.board)) same_row (settles k.state k.board found.queued.job _ is.sound is.are_board o.there o.pending refl refl refl),
        subst (λ r. AreIndexes (written changes (r ∷ []) (holds_group next found.queued) k)) same_row
            (subst (λ (q : QueuedJob). AreIndexes (written changes (started_row k.board found.queued.job.id ∷ []) (holds_group next q) k)) o.is
            (indexed k found.queued.job _ is.sound is.are_board is.are_indexes o.there o.pending o.free refl refl refl)),
      )

  by_refusal : GrantSettles → GrantIsIndexed → (refusing : Bool) → (refusing ≡ true) ↔ ((grant runner found.queued variables next now seed).1 ≡ [])
      → AreSettled k (grant runner found.queued variables next now seed).1 (rows_granted refusing found) (indexes_granted refusing next found)
  by_refusal settles indexed refusing says =
      cond_both (nat_lt MAX_NUMBER next) (refused M15) (granted runner found.queued variables next now seed)
      (λ (p : Plan). ((refusing ≡ true) ↔ (p.1 ≡ [])) → AreSettled k p.1 (rows_granted refusing found) (indexes_granted refusing next found))
      (λ _ w. subst (λ b. AreSettled k [] (rows_granted b found) (indexes_granted b next found)) (sym (w.1 refl)) (is.are_board, is.are_indexes))
      (λ _ w. none_refused refusing w)
      says
    where
      none_refused : (b : Bool) → (b ≡ true) ↔ (changes ≡ []) → AreSettled k changes (rows_granted b found) (indexes_granted b next found)
      none_refused true w = absurd (cc (w.0 refl))
      none_refused false w = settled settles indexed

  -- the plan of a grant, with its row and its group, or without where it is refused, leaves all right
  pub grant_settled : GrantSettles → GrantIsIndexed → (refusing : Bool) → (refusing ≡ true) ↔ ((grant runner found.queued variables next now seed).1 ≡ []) → (beside : Beside)
      → beside.rows.items ≡ rows_granted refusing found → beside.indexes.items ≡ indexes_granted refusing next found → Settles k (grant runner found.queued variables next now seed).1 beside
  grant_settled settles indexed refusing says beside rows indexes =
      let w = by_refusal settles indexed refusing says in
      let made = (grant runner found.queued variables next now seed).1 in
      record {
        board = subst (λ (rs : List BoardRow). AreBoard (applied made k.state) (put_rows rs k.board)) (sym rows) w.0;
        indexes = subst (λ (rs : List BoardRow). AreIndexes (written made rs beside.indexes.items k)) (sym rows)
            (subst (λ (cs : List IndexChange). AreIndexes (written made (rows_granted refusing found) cs k)) (sym indexes) w.1);
      }
