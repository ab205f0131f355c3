-- What changes leave as it is remembered.
use Rattle.std.proofs.Common.{◌≡◌, ◌==◌, ℕ, Bool, true, false, not, List, [], ◌∷◌, filter, map, Some, None, nat_cmp, is_eq}
use Rattle.std.proofs.Common.{refl, sym, ap, subst, ◌∙◌, ⊎_elim, eq-eqb, arith}
use Rattle.std.specs.List.{list_any}
use Rattle.std.specs.List.Sorted.{IsStrictlySortedBy}
use Rattle.std.specs.Ordering.{ordering_then}
use Rattle.std.proofs.lemmas.Bool.{false≢true, or_parts}
use Rattle.std.proofs.lemmas.Option.{cond_some, same_Some}
use Rattle.ci_machine_steps.specs.Prelude.{IndexChange, Key, Record, RowChange, Put, Remove, Attempt, BoardRow, Job, Need, Kept, row_cmp, put_rows, cleared, written, is_within}
use Rattle.ci_machine_steps.specs.Prelude.{needs_within, attempts_within, rows_within, State, job_cmp, need_cmp, attempt_cmp, put, without, without_all, changed, applied, jobs_of}
use Rattle.ci_machine.proofs.Filters.{filter_implied}
use Rattle.ci_machine.proofs.Keyed.{Has, filter_has, has_from_all, rising_put, rising_filter, unequal}
use Rattle.ci_machine_steps.proofs.Sound.{ascend_from_rising, rising_from_ascend}
use Rattle.ci_server_lookups.proofs.Changes.{state_stays, board_stays}
use Rattle.ci_memory_boards.specs.Order.{InOrder}
use Rattle.ci_server_lookups.specs.declared.sheet.Sheet.{Sheet}
use Rattle.ci_memory_boards.specs.Sheets.{owns, own_job, touches, attempt_put}
use Rattle.ci_server_lookups.specs.Prelude.{IsRight}
use Rattle.ci_memory_boards.proofs.Lists.{other_put}

-- a number between two others isn't one that isn't
pub key_apart : (low high a b : ℕ) → is_within low high a ≡ true → is_within low high b ≡ false → not (is_eq (nat_cmp a b)) ≡ true
key_apart low high a b inside outside = unequal a b (λ same. false≢true (sym outside ∙ (ap (is_within low high) (sym same) ∙ inside)))

then_apart : (low high a b : ℕ) (p q : ℕ) → is_within low high a ≡ true → is_within low high b ≡ false → not (is_eq (ordering_then (nat_cmp a b) (nat_cmp p q))) ≡ true
then_apart low high a b p q inside outside = grind (arith, key_apart low high a b inside outside)

-- one of a list has a number, or none has
none_has : (n : ℕ) (a : Attempt) (xs : List Attempt) → list_any (λ x. x.id == n) xs ≡ false → Has a xs → not (is_eq (nat_cmp a.id n)) ≡ true
none_has n a [] none has = absurd has
none_has n a (x ∷ xs) none has =
    let (here, behind) = or_parts (x.id == n) (list_any (λ y. y.id == n) xs) none in
    ⊎_elim (λ same. unequal a.id n (λ e. false≢true (sym here ∙ eq-eqb x.id n (ap (λ (y : Attempt). y.id) (sym same) ∙ e)))) (λ later. none_has n a xs behind later) has

-- ---- one change

module _ (m : Sheet) (k : Kept) (right : IsRight m k) where
  abbrev its : Job → Bool
  its j = j.pipeline == m.pipeline

  abbrev of_need : Need → Bool
  of_need w = is_within m.first m.last w.job

  abbrev of_attempt : Attempt → Bool
  of_attempt a = is_within m.first m.last a.job

  inside : (j : Job) → Has j k.state.jobs → its j ≡ true → is_within m.first m.last j.id ≡ true
  inside j has is = has_from_all (λ x. is_within m.first m.last x.id ≡ true) j m.jobs.items right.inside (subst (λ (l : List Job). Has j l) (sym right.jobs) (filter_has its j k.state.jobs has is))

  -- with other jobs, needs or attempts that are the same between the two numbers
  with_jobs : (js : List Job) → filter its js ≡ filter its k.state.jobs → IsRight m (record k { state = record k.state { jobs = js } })
  with_jobs js same = record { jobs = right.jobs ∙ sym same; inside = right.inside; needs = right.needs; attempts = right.attempts; rows = right.rows; graph = right.graph }

  with_needs : (ws : List Need) → filter of_need ws ≡ filter of_need k.state.needs → IsRight m (record k { state = record k.state { needs = ws } })
  with_needs ws same = record { jobs = right.jobs; inside = right.inside; needs = right.needs ∙ sym same; attempts = right.attempts; rows = right.rows; graph = right.graph }

  with_attempts : (xs : List Attempt) → filter of_attempt xs ≡ filter of_attempt k.state.attempts → IsRight m (record k { state = record k.state { attempts = xs } })
  with_attempts xs same = record { jobs = right.jobs; inside = right.inside; needs = right.needs; attempts = right.attempts ∙ sym same; rows = right.rows; graph = right.graph }

  -- an attempt that is none of those of its jobs, before or after
  pub attempt_elsewhere : (x : Attempt) → is_within m.first m.last x.job ≡ false → list_any (λ a. a.id == x.id) m.attempts.items ≡ false → IsRight m (record k { state = changed (Put (Record.Attempt x)) k.state })
  attempt_elsewhere x outside none =
      with_attempts (put attempt_cmp x k.state.attempts)
      (other_put attempt_cmp of_attempt x k.state.attempts outside
      (λ y has is. none_has x.id y m.attempts.items none (subst (λ (l : List Attempt). Has y l) (sym right.attempts) (filter_has of_attempt y k.state.attempts has is))))

  -- a change that doesn't touch it, and puts no attempt
  pub stays : (c : RowChange) → touches m c ≡ false → attempt_put c ≡ None → IsRight m (record k { state = changed c k.state })
  stays (Put (Record.Job x)) e never =
      with_jobs (put job_cmp x k.state.jobs)
      (other_put job_cmp its x k.state.jobs (or_parts (its x) (is_within m.first m.last x.id) e).0 (λ y has is. key_apart m.first m.last y.id x.id (inside y has is) (or_parts (its x) (is_within m.first m.last x.id) e).1))
  stays (Put (Record.Need x)) e never = with_needs (put need_cmp x k.state.needs) (other_put need_cmp of_need x k.state.needs e (λ y has is. then_apart m.first m.last y.job x.job y.pred x.pred is e))
  stays (Put (Record.Attempt x)) e never = absurd (cc)
  stays (Remove (Key.Job n)) e never =
      with_jobs (without (λ j. j.id) n k.state.jobs) (filter_implied its (λ y. not (is_eq (nat_cmp y.id n))) k.state.jobs (λ y has is. key_apart m.first m.last y.id n (inside y has is) e))
  stays (Remove (Key.Need n p)) e never =
      with_needs (filter (λ w. not (is_eq (ordering_then (nat_cmp w.job n) (nat_cmp w.pred p)))) k.state.needs)
      (filter_implied of_need (λ w. not (is_eq (ordering_then (nat_cmp w.job n) (nat_cmp w.pred p)))) k.state.needs (λ y has is. then_apart m.first m.last y.job n y.pred p is e))
  stays (Remove (Key.Needs n)) e never = with_needs (without (λ w. w.job) n k.state.needs) (filter_implied of_need (λ w. not (is_eq (nat_cmp w.job n))) k.state.needs (λ y has is. key_apart m.first m.last y.job n is e))
  stays (Remove (Key.Attempt n)) e never =
      with_attempts (without (λ a. a.id) n k.state.attempts)
      (filter_implied of_attempt (λ a. not (is_eq (nat_cmp a.id n))) k.state.attempts
      (λ y has is. none_has n y m.attempts.items e (subst (λ (l : List Attempt). Has y l) (sym right.attempts) (filter_has of_attempt y k.state.attempts has is))))
  stays _ e never = record { jobs = right.jobs; inside = right.inside; needs = right.needs; attempts = right.attempts; rows = right.rows; graph = right.graph }

-- the change that puts an attempt
pub put_of : (c : RowChange) (a : Attempt) → attempt_put c ≡ Some a → c ≡ Put (Record.Attempt a)
put_of (Put (Record.Attempt x)) a e = ap (λ (o : Attempt). Put (Record.Attempt o)) (same_Some x a e)
put_of _ a e = cc

-- a job of the sheet's own that the change puts
pub own_job_of : (m : Sheet) (c : RowChange) (j : Job) → own_job m c ≡ Some j → (c ≡ Put (Record.Job j)) × (owns m j ≡ true)
own_job_of m (Put (Record.Job x)) j e = let w = cond_some (owns m x) x j e in (ap (λ (y : Job). Put (Record.Job y)) w.1, ap (owns m) (sym w.1) ∙ w.0)
own_job_of m _ j e = absurd (cc)

-- ---- the order of what is kept

module _ {A : Type 0} (id : A → ℕ) where
  abbrev Ascend : List A → Type 0
  Ascend xs = IsStrictlySortedBy nat_cmp (map id xs)

  -- what ascends does with one more, and without those of a number
  put_ascends : (x : A) (xs : List A) → Ascend xs → Ascend (put (λ a b. nat_cmp (id a) (id b)) x xs)
  put_ascends x xs a = ascend_from_rising id 0 (put (λ a b. nat_cmp (id a) (id b)) x xs) (rising_put id x 0 xs (rising_from_ascend id xs a) (omega arith))

  without_ascends : (n : ℕ) (xs : List A) → Ascend xs → Ascend (without id n xs)
  without_ascends n xs a = ascend_from_rising id 0 (without id n xs) (rising_filter id (λ x. not (is_eq (nat_cmp (id x) n))) 0 xs (rising_from_ascend id xs a))

abbrev by_id : Attempt → ℕ
by_id a = a.id

abbrev job_id : Job → ℕ
job_id j = j.id

abbrev by_job : BoardRow → ℕ
by_job r = r.job

cleared_ascend : (jobs : List ℕ) (board : List BoardRow) → Ascend by_job board → Ascend by_job (without_all by_job jobs board)
cleared_ascend [] board a = a
cleared_ascend (n ∷ jobs) board a = cleared_ascend jobs (without by_job n board) (without_ascends by_job n board a)

pub cleared_in_order : (k : Kept) (gone : List ℕ) → InOrder k → InOrder (cleared gone k)
cleared_in_order k gone o = record { jobs = o.jobs; attempts = o.attempts; rows = cleared_ascend gone k.board o.rows }

pub one_in_order : (k : Kept) (c : RowChange) → InOrder k → InOrder (record k { state = changed c k.state })
one_in_order k (Put (Record.Job x)) o = record { jobs = put_ascends job_id x k.state.jobs o.jobs; attempts = o.attempts; rows = o.rows }
one_in_order k (Put (Record.Attempt x)) o = record { jobs = o.jobs; attempts = put_ascends by_id x k.state.attempts o.attempts; rows = o.rows }
one_in_order k (Remove (Key.Job n)) o = record { jobs = without_ascends job_id n k.state.jobs o.jobs; attempts = o.attempts; rows = o.rows }
one_in_order k (Remove (Key.Attempt n)) o = record { jobs = o.jobs; attempts = without_ascends by_id n k.state.attempts o.attempts; rows = o.rows }
one_in_order k _ o = record { jobs = o.jobs; attempts = o.attempts; rows = o.rows }

pub row_in_order : (k : Kept) (r : BoardRow) → InOrder k → InOrder (record k { board = put row_cmp r k.board })
row_in_order k r o = record { jobs = o.jobs; attempts = o.attempts; rows = put_ascends by_job r k.board o.rows }

records_in_order : (k : Kept) (cs : List RowChange) → InOrder k → InOrder (record k { state = applied cs k.state })
records_in_order k [] o = o
records_in_order k (c ∷ cs) o = records_in_order (record k { state = changed c k.state }) cs (one_in_order k c o)

rows_in_order : (k : Kept) (rs : List BoardRow) → InOrder k → InOrder (record k { board = put_rows rs k.board })
rows_in_order k [] o = o
rows_in_order k (r ∷ rs) o = rows_in_order (record k { board = put row_cmp r k.board }) rs (row_in_order k r o)

pub written_in_order : (k : Kept) (cs : List RowChange) (rs : List BoardRow) (is : List IndexChange) (gone : List ℕ) → InOrder k → InOrder (written cs rs is (cleared gone k))
written_in_order k cs rs is gone o =
    let before : Kept = record (cleared gone k) { state = applied cs k.state } in
    let mid : Kept = record before { board = put_rows rs before.board } in
    let all = rows_in_order before rs (records_in_order (cleared gone k) cs (cleared_in_order k gone o)) in
    record {
      jobs = subst (λ (s : State). Ascend job_id s.jobs) (sym (state_stays is mid)) all.jobs;
      attempts = subst (λ (s : State). Ascend by_id s.attempts) (sym (state_stays is mid)) all.attempts;
      rows = subst (Ascend by_job) (sym (board_stays is mid)) all.rows;
    }

-- ---- rows that go

pub rows_gone : (low high : ℕ) (jobs : List ℕ) (board : List BoardRow) → list_any (is_within low high) jobs ≡ false → rows_within low high (without_all by_job jobs board) ≡ rows_within low high board
rows_gone low high [] board none = refl
rows_gone low high (n ∷ jobs) board none =
    rows_gone low high jobs (without by_job n board) (or_parts (is_within low high n) (list_any (is_within low high) jobs) none).1
    ∙ filter_implied (λ r. is_within low high r.job) (λ r. not (is_eq (nat_cmp r.job n))) board (λ y has is. key_apart low high y.job n is (or_parts (is_within low high n) (list_any (is_within low high) jobs) none).0)

pub right_cleared : (m : Sheet) (k : Kept) (gone : List ℕ) → list_any (is_within m.first m.last) gone ≡ false → IsRight m k → IsRight m (cleared gone k)
right_cleared m k gone none right =
    record { jobs = right.jobs; inside = right.inside; needs = right.needs; attempts = right.attempts; rows = right.rows ∙ sym (rows_gone m.first m.last gone k.board none); graph = right.graph }

-- being right is of the state and of the rows alone
pub right_same : (m : Sheet) (k l : Kept) → l.state ≡ k.state → l.board ≡ k.board → IsRight m k → IsRight m l
right_same m k l s b right = record {
  jobs = right.jobs ∙ sym (ap (λ (t : State). jobs_of t m.pipeline) s);
  inside = right.inside;
  needs = right.needs ∙ sym (ap (λ (t : State). needs_within m.first m.last t.needs) s);
  attempts = right.attempts ∙ sym (ap (λ (t : State). attempts_within m.first m.last t.attempts) s);
  rows = right.rows ∙ sym (ap (rows_within m.first m.last) b);
  graph = right.graph;
}
