-- The rows of one pipeline put where others stood.
use Rattle.std.proofs.Common.{◌≡◌, ℕ, suc, ◌+◌, ◌<◌, ◌≤◌, ◌==◌, List, [], ◌∷◌, ◌++◌, length, map, All, refl, sym, ap, subst, ◌∙◌, inl, inr, ⊎_elim, arith, eqb-true}
use Rattle.std.proofs.lemmas.Bool.{cond_both}
use Rattle.std.specs.List.{AllByRecursion}
use Rattle.std.proofs.lemmas.List.Elements.{All-from_recursion}
use Rattle.ci_machine_steps.specs.Prelude.{Row, same_row, differing, BoardRow, put, row_cmp, put_rows, row_for, row_or_none}
use Rattle.ci_board.proofs.Exact.{row_equal}
use Rattle.ci_machine.proofs.Keyed.{Has, Rising, rising_from, find_has, map_has, map_rises, rises_from_map}
use Rattle.ci_machine_steps.proofs.Behind.{put_all, all_behind, rising_ordered, nat_less}
use Rattle.ci_machine_statuses.specs.Boards.{board_row, changed_rows}
use Rattle.ci_machine_statuses.proofs.Puts.{job_of, cons_same, map_same, map_twice, swap, put_replace, row_put, row_other}

-- ---- rows that are put

-- the rows of other jobs stay
pub others_stay : (rows board : List BoardRow) (n : ℕ) → ((r : BoardRow) → Has r rows → n ≡ r.job → ⊥) → row_for (put_rows rows board) n ≡ row_for board n
others_stay [] board n d = refl
others_stay (r ∷ rows) board n d = others_stay rows (put row_cmp r board) n (λ x h. d x (inr h)) ∙ row_other r n board (d r (inl refl))

-- ---- the keys of a board

-- lists of the same numbers rise together
pub rises_like : {A B : Type 0} (id : A → ℕ) (ib : B → ℕ) (low : ℕ) (xs : List A) (ys : List B) → map id xs ≡ map ib ys → Rising ib low ys → Rising id low xs
rises_like id ib low xs ys e r = rises_from_map id low xs (subst (Rising (λ n. n) low) (sym e) (map_rises ib low ys r))

pub put_keys : (r : BoardRow) (board : List BoardRow) → Rising (λ x. x.job) 0 board → Has r.job (map (λ x. x.job) board) → map (λ x. x.job) (put row_cmp r board) ≡ map (λ x. x.job) board
put_keys r board rise h =
    let old = map_has job_of r.job board h in
    ap (map job_of) (put_replace job_of old.0 r 0 board rise old.1.0 old.1.1)
    ∙ (map_twice job_of (swap job_of r) board
    ∙ map_same (λ y. (swap job_of r y).job) job_of board (λ y k. cond_both (y.job == r.job) r y (λ (w : BoardRow). w.job ≡ y.job) (λ e. sym (eqb-true y.job r.job e)) (λ e. refl)))

keys_stay : (rows board : List BoardRow) → Rising (λ x. x.job) 0 board → ((r : BoardRow) → Has r rows → Has r.job (map (λ x. x.job) board))
    → map (λ x. x.job) (put_rows rows board) ≡ map (λ x. x.job) board
keys_stay [] board rise h = refl
keys_stay (r ∷ rows) board rise h =
    let first = put_keys r board rise (h r (inl refl)) in
    keys_stay rows (put row_cmp r board) (rises_like job_of job_of 0 (put row_cmp r board) board first rise) (λ x l. subst (Has x.job) (sym first) (h x (inr l))) ∙ first

-- a row of a board is found at its job
pub its_row : (low : ℕ) (board : List BoardRow) (r : BoardRow) → Rising (λ x. x.job) low board → Has r board → row_for board r.job ≡ r.row
its_row low board r rise h = ap row_or_none (find_has job_of r low board rise h)

-- rows behind all others are added at the end
rows_put : (rows board : List BoardRow) → put_rows rows board ≡ put_all row_cmp rows board
rows_put [] board = refl
rows_put (r ∷ rows) board = rows_put rows (put row_cmp r board)

pub puts_behind : (low : ℕ) (rows board : List BoardRow) → Rising (λ x. x.job) low rows → ((y : BoardRow) → Has y board → y.job < low) → put_rows rows board ≡ board ++ rows
puts_behind low rows board r below =
    rows_put rows board
    ∙ all_behind row_cmp rows board (rising_ordered job_of low rows r) (λ q k y m. nat_less y.job q.job (omega (arith, below y m, rising_from job_of q low rows r k)))

-- ---- the rows that differ are put

-- Of jobs with these numbers f has the rows before, and F the new ones from a position on.
module _ (F : ℕ → BoardRow) (f : ℕ → Row) where
  abbrev Are : ℕ → List ℕ → List Row → Type 0
  Are k ns rows = (i : ℕ) → F (k + i) ≡ board_row ns rows i

  first : (k n : ℕ) (ns : List ℕ) (b : Row) (rows : List Row) → Are k (n ∷ ns) (b ∷ rows) → F k ≡ record { job = n; row = b }
  first k n ns b rows h = ap F (let z : k ≡ k + 0 = omega arith in z) ∙ h 0

  next : (k n : ℕ) (ns : List ℕ) (b : Row) (rows : List Row) → Are k (n ∷ ns) (b ∷ rows) → Are (k + 1) ns rows
  next k n ns b rows h i = ap F (let z : k + 1 + i ≡ k + suc i = omega arith in z) ∙ h (suc i)

  -- they are of these jobs
  of_these : (k : ℕ) (ns : List ℕ) (rows : List Row) → Are k ns rows → (r : BoardRow) → Has r (map F (differing k (map f ns) rows)) → Has r.job ns
  of_these k [] rows h r m = absurd m
  of_these k (n ∷ ns) [] h r m = absurd m
  of_these k (n ∷ ns) (b ∷ rows) h r m =
      let rest = of_these (k + 1) ns rows (next k n ns b rows h) r in
      cond_both (same_row (f n) b) (differing (k + 1) (map f ns) rows) (k ∷ differing (k + 1) (map f ns) rows) (λ ks. Has r (map F ks) → Has r.job (n ∷ ns))
      (λ _ q. inr (rest q)) (λ _ q. ⊎_elim (λ e. inl (ap job_of (e ∙ first k n ns b rows h))) (λ l. inr (rest l)) q) m

  -- and these jobs have the new rows then
  lead_to : (k low : ℕ) (ns : List ℕ) (rows : List Row) (board : List BoardRow) → Rising (λ n. n) low ns → length rows ≡ length ns → Are k ns rows
      → ((n : ℕ) → Has n ns → row_for board n ≡ f n) → map (row_for (put_rows (map F (differing k (map f ns) rows)) board)) ns ≡ rows
  lead_to k low [] [] board r l h was = refl
  lead_to k low [] (b ∷ rows) board r l h was = absurd (omega arith)
  lead_to k low (n ∷ ns) [] board r l h was = absurd (omega arith)
  lead_to k low (n ∷ ns) (b ∷ rows) board r l h was =
      let puts : List ℕ = differing (k + 1) (map f ns) rows in
      let new : F k ≡ record { job = n; row = b } = first k n ns b rows h in
      let fresh : (m : ℕ) → Has m ns → m ≡ n → ⊥ = λ m q e. omega (arith, rising_from (λ x. x) m (n + 1) ns r.1 q) in
      let stays : (c : List BoardRow) → row_for (put_rows (map F puts) c) n ≡ row_for c n
      = λ c. others_stay (map F puts) c n (λ x q e. fresh x.job (of_these (k + 1) ns rows (next k n ns b rows h) x q) (sym e)) in
      let rest = λ (c : List BoardRow). lead_to (k + 1) (n + 1) ns rows c r.1 (omega arith) (next k n ns b rows h) in
      cond_both (same_row (f n) b) puts (k ∷ puts) (λ ks. map (row_for (put_rows (map F ks) board)) (n ∷ ns) ≡ b ∷ rows)
      (λ q. cons_same (stays board ∙ (was n (inl refl) ∙ (row_equal (f n) b).0 q)) (rest board (λ m z. was m (inr z))))
      (λ q. cons_same
      (stays (put row_cmp (F k) board) ∙ (ap (row_for (put row_cmp (F k) board)) (sym (ap job_of new)) ∙ (row_put (F k) board ∙ ap (λ (x : BoardRow). x.row) new)))
      (rest (put row_cmp (F k) board) (λ m z. row_other (F k) m board (λ e. fresh m z (e ∙ ap job_of new)) ∙ was m (inr z))))

module _ (ns : List ℕ) (rows : List Row) (board : List BoardRow) where
  abbrev puts : List BoardRow
  puts = changed_rows ns (map (row_for board) ns) rows

  are : (i : ℕ) → board_row ns rows (0 + i) ≡ board_row ns rows i
  are i = ap (board_row ns rows) (let z : 0 + i ≡ i = omega arith in z)

  its_number : (r : BoardRow) → Has r puts → Has r.job ns
  its_number = of_these (board_row ns rows) (row_for board) 0 ns rows are

  pub changed_own : Rising (λ n. n) 0 ns → length rows ≡ length ns → map (row_for (put_rows (changed_rows ns (map (row_for board) ns) rows) board)) ns ≡ rows
  changed_own rise long = lead_to (board_row ns rows) (row_for board) 0 0 ns rows board rise long are (λ n h. refl)

  pub changed_other : (m : ℕ) → (Has m ns → ⊥) → row_for (put_rows (changed_rows ns (map (row_for board) ns) rows) board) m ≡ row_for board m
  changed_other m d = others_stay puts board m (λ r h e. d (subst (λ n. Has n ns) (sym e) (its_number r h)))

  pub changed_keys : Rising (λ x. x.job) 0 board → ((n : ℕ) → Has n ns → Has n (map (λ x. x.job) board))
      → map (λ x. x.job) (put_rows (changed_rows ns (map (row_for board) ns) rows) board) ≡ map (λ x. x.job) board
  changed_keys rise h = keys_stay puts board rise (λ r k. h r.job (its_number r k))

-- ---- the positions that differ

differing_within : (n k : ℕ) (olds rows : List Row) → k + length rows ≤ n → AllByRecursion (λ j. j < n) (differing k olds rows)
differing_within n k [] rows l = tt
differing_within n k (a ∷ olds) [] l = tt
differing_within n k (a ∷ olds) (b ∷ rows) l =
    cond_both (same_row a b) (differing (k + 1) olds rows) (k ∷ differing (k + 1) olds rows) (AllByRecursion (λ j. j < n))
    (λ e. differing_within n (k + 1) olds rows (omega arith))
    (λ e. (omega arith, differing_within n (k + 1) olds rows (omega arith)))

pub all_within : (n : ℕ) (olds rows : List Row) (positions : List ℕ) → length rows ≡ n → positions ≡ differing 0 olds rows → All (λ i. i < n) positions
all_within n olds rows positions l e = subst (All (λ i. i < n)) (sym e) (All-from_recursion (λ i. i < n) (differing 0 olds rows) (differing_within n 0 olds rows (omega arith)))
