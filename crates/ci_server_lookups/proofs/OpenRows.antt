-- The pipelines that aren't finished are those of which a job has a row that keeps them open.
use Rattle.std.proofs.Common.{◌≡◌, ◌⊎◌, ℕ, Bool, true, false, ◌||◌, ◌==◌, List, filter, Option, Some, None, refl, sym, ap, subst, ◌∙◌, inl, inr, ⊎_elim, eqb-true, eq-eqb}
use Rattle.std.specs.List.{list_any, dedup}
use lib.Dec.{eqb}
use Rattle.std.proofs.lemmas.List.Kept.{Contains-dedup_nat, Contains-from_dedup}
use Rattle.std.proofs.lemmas.Bool.{false≢true, and_parts, and_from, or_cases, or_left, or_right}
use Rattle.std.proofs.lemmas.Bool.Decides.{same_from_decides}
use Rattle.ci_machine_steps.specs.Prelude.{AllowFailure, Row, Status, is_status, Pipeline, Job, BoardRow, Unfinished, Kept, job_at, rows_with, jobs_of, row_for, AreBoard}
use Rattle.ci_machine_steps.specs.Prelude.{is_open_in, unfinished_in}
use Rattle.ci_machine.proofs.Keyed.{Has, has_filter, filter_has, has_map, map_has, find_has, has_find, has_from_contains, contains_from_has}
use Rattle.ci_machine.proofs.Tests.{any_has, has_any}
use Rattle.ci_machine_steps.proofs.Sound.{Sound, sound}
use Rattle.ci_machine_statuses.proofs.RowPuts.{its_row}
use Rattle.ci_machine_statuses.proofs.Joint.{board_rises}
use Rattle.ci_machine_statuses.proofs.PendingRows.{its_row_found}
use Rattle.ci_server_lookups.specs.Prelude.{IsKept, keeps_open, opens_with, opens, has_number, AreOpen}
use Rattle.ci_server_lookups.proofs.Opens.{opened, opener}

-- one of two tests passes where the other does
pub same_test : (a b : Bool) → (a ≡ true → b ≡ true) → (b ≡ true → a ≡ true) → a ≡ b
same_test a b f g = same_from_decides a b (f, g) (λ e. e, λ e. e)

-- a job that keeps its pipeline open is running, pending or manual
which : (allow : AllowFailure) (s : Status) → keeps_open allow s ≡ true → (is_status s Status.Running ≡ true) ⊎ ((is_status s Status.Pending ≡ true) ⊎ (is_status s Status.Manual ≡ true))
which allow Status.Running e = inl refl
which allow Status.Pending e = inr (inl refl)
which allow Status.Manual e = inr (inr refl)
which allow _ e = absurd (false≢true e)

by_job : (n : ℕ) (s : Status) (o : Option Job) → opens_with n s o ≡ true → (j : Job) × (o ≡ Some j) × (keeps_open j.options.part.allow_failure s ≡ true) × (j.pipeline ≡ n)
by_job n s None e = absurd (false≢true e)
by_job n s (Some j) e = let w = and_parts (keeps_open j.options.part.allow_failure s) (j.pipeline == n) e in (j, refl, w.0, eqb-true j.pipeline n w.1)

-- by one of three lists of rows
abbrev pub opened_by_rows : Kept → ℕ → Bool
opened_by_rows k n =
    list_any (opens k.state n) (rows_with Status.Running k.board) || list_any (opens k.state n) (rows_with Status.Pending k.board) || list_any (opens k.state n) (rows_with Status.Manual k.board)

module _ (k : Kept) (sound : Sound k.state) (are : AreBoard k.state k.board) (unfinished : k.unfinished ≡ unfinished_in k.state k.board) where
  abbrev of_pipeline : ℕ → Unfinished → Bool
  of_pipeline n u = u.pipeline == n

  -- a row that keeps a pipeline open
  row_opens : (n : ℕ) (r : BoardRow) → Has r k.board → opens k.state n r ≡ true → list_any (of_pipeline n) k.unfinished ≡ true
  row_opens n r has e =
      let w = by_job n r.row.status (job_at k.state r.job) e in
      let j = w.0 in
      let found = has_find (λ (i : Job). i.id == r.job) j k.state.jobs w.1 in
      let row : row_for k.board j.id ≡ r.row = ap (row_for k.board) (eqb-true j.id r.job found.1) ∙ its_row 0 k.board r (board_rises k.state k.board sound are) has in
      let named = sound.job_pipeline j found.0 in
      let p = named.0 in
      let its : Has j (jobs_of k.state p.id) = filter_has (λ (i : Job). i.pipeline == p.id) j k.state.jobs found.0 (eq-eqb j.pipeline p.id (sym named.1.1)) in
      let unfinished_one : is_open_in k.state k.board p ≡ true = opened k.state k.board p j its (ap (λ (x : Row). keeps_open j.options.part.allow_failure x.status) row ∙ w.2) in
      let listed : Has (record { pipeline = p.id }) (unfinished_in k.state k.board)
      = has_map (λ (q : Pipeline). record { pipeline = q.id }) p (filter (is_open_in k.state k.board) k.state.pipelines) (filter_has (is_open_in k.state k.board) p k.state.pipelines named.1.0 unfinished_one) in
      has_any (of_pipeline n) (record { pipeline = p.id }) k.unfinished (subst (λ (us : List Unfinished). Has (record { pipeline = p.id }) us) (sym unfinished) listed) (eq-eqb p.id n (named.1.1 ∙ w.3))

  rows_open : (n : ℕ) (s : Status) → list_any (opens k.state n) (rows_with s k.board) ≡ true → list_any (of_pipeline n) k.unfinished ≡ true
  rows_open n s e =
      let w = any_has (opens k.state n) (rows_with s k.board) e in
      row_opens n w.0 (has_filter (λ (r : BoardRow). is_status r.row.status s) w.0 k.board w.1.0).0 w.1.1

  -- a pipeline that isn't finished has such a row
  has_row : (n : ℕ) → list_any (of_pipeline n) k.unfinished ≡ true → (r : BoardRow) × Has r k.board × (opens k.state n r ≡ true) × ((is_status r.row.status Status.Running ≡ true) ⊎ ((is_status r.row.status Status.Pending ≡ true) ⊎ (is_status r.row.status Status.Manual ≡ true)))
  has_row n e =
      let u = any_has (of_pipeline n) k.unfinished e in
      let m = map_has (λ (q : Pipeline). record { pipeline = q.id }) u.0 (filter (is_open_in k.state k.board) k.state.pipelines) (subst (λ (us : List Unfinished). Has u.0 us) unfinished u.1.0) in
      let p = m.0 in
      let is = has_filter (is_open_in k.state k.board) p k.state.pipelines m.1.0 in
      let number : p.id ≡ n = ap (λ (v : Unfinished). v.pipeline) m.1.1 ∙ eqb-true u.0.pipeline n u.1.1 in
      let o = opener k.state k.board p is.1 in
      let j = o.0 in
      let its = has_filter (λ (i : Job). i.pipeline == p.id) j k.state.jobs o.1 in
      let f = its_row_found k.state k.board j are its.0 in
      let r = f.0 in
      let found = has_find (λ (x : BoardRow). x.job == j.id) r k.board f.1 in
      let keeps : keeps_open j.options.part.allow_failure r.row.status ≡ true = ap (λ (x : Row). keeps_open j.options.part.allow_failure x.status) f.2 ∙ o.2 in
      let at : job_at k.state r.job ≡ Some j = ap (job_at k.state) (eqb-true r.job j.id found.1) ∙ find_has (λ (i : Job). i.id) j 0 k.state.jobs sound.jobs its.0 in
      (r, found.0, ap (opens_with n r.row.status) at ∙ and_from (keeps_open j.options.part.allow_failure r.row.status) (j.pipeline == n) keeps (eq-eqb j.pipeline n (eqb-true j.pipeline p.id its.1 ∙ number)), which j.options.part.allow_failure r.row.status keeps)

  open_has_rows : (n : ℕ) → list_any (of_pipeline n) k.unfinished ≡ true → opened_by_rows k n ≡ true
  open_has_rows n e =
      let w = has_row n e in
      let in_list : (s : Status) → is_status w.0.row.status s ≡ true → list_any (opens k.state n) (rows_with s k.board) ≡ true
      = λ s t. has_any (opens k.state n) w.0 (rows_with s k.board) (filter_has (λ (r : BoardRow). is_status r.row.status s) w.0 k.board w.1 t) w.2 in
      let running = list_any (opens k.state n) (rows_with Status.Running k.board) in
      let pending = list_any (opens k.state n) (rows_with Status.Pending k.board) in
      let manual = list_any (opens k.state n) (rows_with Status.Manual k.board) in
      ⊎_elim (λ t. or_left (running || pending) manual (or_left running pending (in_list Status.Running t)))
      (λ v. ⊎_elim (λ t. or_left (running || pending) manual (or_right running pending (in_list Status.Pending t))) (λ t. or_right (running || pending) manual (in_list Status.Manual t)) v)
      w.3

  pub by_rows : (n : ℕ) → opened_by_rows k n ≡ list_any (of_pipeline n) k.unfinished
  by_rows n =
      let running = list_any (opens k.state n) (rows_with Status.Running k.board) in
      let pending = list_any (opens k.state n) (rows_with Status.Pending k.board) in
      let manual = list_any (opens k.state n) (rows_with Status.Manual k.board) in
      same_test (opened_by_rows k n) (list_any (of_pipeline n) k.unfinished)
      (λ e. ⊎_elim (λ v. ⊎_elim (rows_open n Status.Running) (rows_open n Status.Pending) (or_cases running pending v)) (rows_open n Status.Manual) (or_cases (running || pending) manual e))
      (open_has_rows n)

pub are_open : (k : Kept) (numbers : List ℕ) → IsKept k → ((n : ℕ) → has_number n numbers ≡ opened_by_rows k n) → AreOpen k numbers
are_open k numbers kept are n = are n ∙ by_rows k (sound k.state kept.sound) kept.are_board kept.are_indexes.unfinished n

-- ---- the numbers, each once

pub number_once : (n : ℕ) (xs : List ℕ) → has_number n (dedup eqb xs) ≡ has_number n xs
number_once n xs =
    let is_n : ℕ → Bool = λ m. m == n in
    same_test (has_number n (dedup eqb xs)) (has_number n xs)
    (λ e. let w = any_has is_n (dedup eqb xs) e in
    has_any is_n w.0 xs (has_from_contains w.0 xs (Contains-from_dedup eqb xs w.0 (contains_from_has w.0 (dedup eqb xs) w.1.0))) w.1.1)
    (λ e. let w = any_has is_n xs e in
    has_any is_n w.0 (dedup eqb xs) (has_from_contains w.0 (dedup eqb xs) (Contains-dedup_nat xs w.0 (contains_from_has w.0 xs w.1.0))) w.1.1)
