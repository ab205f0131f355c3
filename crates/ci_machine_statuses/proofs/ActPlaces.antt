-- A user acts on jobs of a pipeline: the places of these jobs on its board, and the board after.
use Rattle.std.proofs.Common.{◌≡◌, ℕ, zero, suc, ◌+◌, ◌<◌, ◌≤◌, Bool, true, false, cond, ◌&&◌, ◌||◌, ◌==◌, List, [], ◌∷◌, ◌++◌, length, map, filter, All, if◌then◌else◌, Option}
use Rattle.std.proofs.Common.{Some, slice_index_or, slice_set, refl, sym, ap, subst, ◌∙◌, inl, inr, ⊎_elim, arith, eqb-true, eq-eqb, ne_eqb}
use Rattle.std.specs.List.{range_with_len}
use Rattle.std.proofs.lemmas.Bool.{cond_both, cond-true, cond-false, cases_Bool, both_ways, eqb-false, or_from, or_right}
use Rattle.std.proofs.lemmas.List.{ext_get_or, get_or-map, get_or-set_same, get_or-set_other, length-map, length-set}
use Rattle.std.proofs.lemmas.List.FromFn.{fill_by_all}
use Rattle.ci_machine.specs.Prelude.{number_at}
use Rattle.ci_machine_steps.specs.Prelude.{Facts, FactsChange, Row, AreRows, BoardState, no_facts, no_row, facts_at, replaced, is_named, Job, BoardRow, State, applied, put_rows}
use Rattle.ci_machine_steps.specs.Prelude.{jobs_of, numbers_of, graph_of, facts_in, facts_of, rows_of, row_for, status_for, AreRowsOf, AreBoard, plain_options}
use Rattle.ci_board.specs.Prelude.{row_at}
use Rattle.ci_machine.proofs.Keyed.{Has, Rising, rising_from, rising_filter, has_filter, filter_has, filter_none, filter_same, map_has, has_from_all, All-from_has}
use Rattle.ci_machine_steps.proofs.Ranges.{range_more}
use Rattle.ci_machine_steps.proofs.Sound.{Sound}
use Rattle.ci_machine_statuses.specs.declared.act.Act.{Act}
use Rattle.ci_machine_statuses.specs.declared.outcome.Outcome.{Outcome}
use Rattle.ci_machine_statuses.specs.Acts.{is_permitted, act_changes, acted, facts_acted, is_asked, is_acted_on, acted_jobs, acted_state, is_acted_at, facts_change, IsOutcome}
use Rattle.ci_machine_statuses.specs.Boards.{IsBoardOf, changed_rows}
use Rattle.ci_machine_statuses.specs.Changes.{IsWithin}
use Rattle.ci_machine.proofs.Filters.{map_filter}
use Rattle.ci_machine_statuses.proofs.Puts.{number, more_in, more_out}
use Rattle.ci_machine_statuses.proofs.Ends.{settled_by}
use Rattle.ci_machine_statuses.proofs.Joint.{rows_same, settled}
use Rattle.ci_machine_statuses.proofs.ActFacts.{t, after_is, its_facts, within}
use Rattle.ci_machine_statuses.proofs.Facts.{its_own}

-- ---- the board after

module _ (s : State) (act : Act) (p : ℕ) (test : Job → Bool) (rows : List Row) (sound : Sound s) (long : length rows ≡ length (numbers_of s p)) (right : AreRows (graph_of s p) (facts_acted act s p test) rows) where
  abbrev new : State
  new = t s act p test sound

  right_now : AreRows (graph_of s p) (facts_of new p) rows
  right_now = rows_same refl (its_facts s act p test sound) refl right

  pub act_board : (board : List BoardRow) → AreBoard s board
      → AreBoard (applied (act_changes act s (filter test (jobs_of s p))) s) (put_rows (changed_rows (numbers_of s p) (rows_of s board p) rows) board)
  act_board board are =
      subst (λ (w : State). AreBoard w (put_rows (changed_rows (numbers_of s p) (rows_of s board p) rows) board)) (sym (after_is s act p test sound))
      (settled s new board p rows sound are (within s act p test sound) long right_now)

  pub act_rows : AreRowsOf (applied (act_changes act s (filter test (jobs_of s p))) s) p rows
  act_rows =
      let w = within s act p test sound in
      subst (λ (v : State). AreRowsOf v p rows) (sym (after_is s act p test sound)) (record {
        long = long ∙ (sym (ap length (w.its_numbers p)) ∙ length-map (jobs_of new p) number);
        settled = rows_same (w.graphs p) refl refl right_now;
      })

-- ---- places

-- one place more
pub place_pushed : (r : ℕ → Bool) (n : ℕ) (places pushed : List ℕ) → r n ≡ true → places ≡ filter r (range_with_len 0 n) → pushed ≡ places ++ n ∷ [] → pushed ≡ filter r (range_with_len 0 (n + 1))
place_pushed r n places pushed e h push = push ∙ (ap (λ l. l ++ n ∷ []) h ∙ sym (ap (filter r) (range_more n) ∙ more_in r (range_with_len 0 n) n e))

pub place_passed : (r : ℕ → Bool) (n : ℕ) (places : List ℕ) → r n ≡ false → places ≡ filter r (range_with_len 0 n) → places ≡ filter r (range_with_len 0 (n + 1))
place_passed r n places e h = h ∙ sym (ap (filter r) (range_more n) ∙ more_out r (range_with_len 0 n) n e)

in_range : (low n i : ℕ) → Has i (range_with_len low n) → (low ≤ i) × (i < low + n)
in_range low zero i k = absurd k
in_range low (suc n) i k = ⊎_elim (λ e. (omega arith, omega arith)) (λ m. let w = in_range (low + 1) n i m in let a : low + 1 ≤ i = w.0 in let b : i < low + 1 + n = w.1 in (omega arith, omega arith)) k

range_has : (low n i : ℕ) → low ≤ i → i < low + n → Has i (range_with_len low n)
range_has low zero i l m = absurd (omega arith)
range_has low (suc n) i l m =
    cond_both (i == low) 0 0 (λ (_ : ℕ). Has i (range_with_len low (suc n)))
    (λ e. inl (eqb-true i low e))
    (λ e. inr (range_has (low + 1) n i (let d : i ≡ low → ⊥ = eqb-false i low e in omega arith) (omega arith)))

-- ---- new facts of many jobs

-- the named jobs come to the facts that are wanted, and the others have them already
named_facts : (moved : List FactsChange) (facts target : List Facts) → length facts ≡ length target
    → ((c : FactsChange) → Has c moved → (c.position < length target) × (c.facts ≡ facts_at target c.position))
    → ((i : ℕ) → i < length target → is_named moved i ≡ false → facts_at facts i ≡ facts_at target i) → replaced moved facts ≡ target
named_facts [] facts target l named rest = ext_get_or no_facts facts target l (λ i k. rest i (omega arith) refl)
named_facts (c ∷ cs) facts target l named rest =
    let own = named c (inl refl) in
    named_facts cs (slice_set facts c.position c.facts) target (length-set facts c.position c.facts ∙ l) (λ d h. named d (inr h))
    (λ i k e. cond_both (c.position == i) 0 0 (λ (_ : ℕ). facts_at (slice_set facts c.position c.facts) i ≡ facts_at target i)
    (λ q. subst (λ (n : ℕ). facts_at (slice_set facts c.position c.facts) n ≡ facts_at target n) (eqb-true c.position i q)
    (get_or-set_same facts c.position c.facts no_facts (let z : c.position < length target = own.0 in omega arith) ∙ own.1))
    (λ q. get_or-set_other facts c.position i c.facts no_facts (λ z. eqb-false c.position i q (sym z))
    ∙ rest i k (or_from (c.position == i) (is_named cs i) q e)))

named_has : (act : Act) (facts : List Facts) (i : ℕ) (places : List ℕ) → Has i places → is_named (map (facts_change act facts) places) i ≡ true
named_has act facts i [] h = absurd h
named_has act facts i (n ∷ ns) h =
    ⊎_elim
    (λ e. ap (λ b. b || is_named (map (facts_change act facts) ns) i) (eq-eqb n i (sym e)))
    (λ m. or_right (n == i) (is_named (map (facts_change act facts) ns) i) (named_has act facts i ns m))
    h

no_job : Job
no_job = record { id = 0; pipeline = 0; position = 0; name = []; stage = []; options = plain_options []; played = false; cancelled = false; set_aside = 0 }

-- ---- the outcome

module _ (act : Act) (only : Option ℕ) (s : State) (board : List BoardRow) (p : ℕ) (sound : Sound s) (are : AreBoard s board) where
  abbrev js : List Job
  js = jobs_of s p

  abbrev test : Job → Bool
  test = is_acted_on act only board

  abbrev passes : ℕ → Bool
  passes = is_acted_at act only (numbers_of s p) (rows_of s board p)

  abbrev places : List ℕ
  places = filter passes (range_with_len 0 (length js))

  abbrev old_facts : List Facts
  old_facts = facts_of s p

  passes_is : (other : Job) (i : ℕ) → i < length js → passes i ≡ test (slice_index_or js i other)
  passes_is other i l =
      let named : number_at (numbers_of s p) i ≡ (slice_index_or js i other).id = get_or-map number js i other 0 l in
      let row : row_at (rows_of s board p) i ≡ row_for board (slice_index_or js i other).id
      = get_or-map (row_for board) (numbers_of s p) i 0 no_row (subst (λ n. i < n) (sym (length-map js number)) l) ∙ ap (row_for board) named in
      λ k. is_asked only (named k) && is_permitted act (row k).status

  its_places : (i : ℕ) → Has i places → (i < length js) × (passes i ≡ true)
  its_places i k = let w = has_filter passes i (range_with_len 0 (length js)) k in let r = in_range 0 (length js) i w.0 in let l : i < 0 + length js = r.1 in (omega arith, w.1)

  jobs_are : (other : Job) → map (λ i. slice_index_or js i other) places ≡ acted_jobs act only s board p
  jobs_are other =
      let at : ℕ → Job = λ i. slice_index_or js i other in
      ap (map at) (filter_same passes (λ i. test (at i)) (range_with_len 0 (length js))
      (λ i k. let w = in_range 0 (length js) i k in let l : i < 0 + length js = w.1 in passes_is other i (omega arith)))
      ∙ (map_filter at test (range_with_len 0 (length js)) ∙ ap (filter test) (sym (fill_by_all at js (length js) other refl (λ k l. refl))))

  target_at : (i : ℕ) → i < length js → facts_at (facts_acted act s p test) i ≡ (if passes i then acted act (facts_at old_facts i) else facts_at old_facts i)
  target_at i l =
      let before : facts_at old_facts i ≡ facts_in s (slice_index_or js i no_job) = get_or-map (facts_in s) js i no_job no_facts l in
      get_or-map (λ j. if test j then acted act (facts_in s j) else facts_in s j) js i no_job no_facts l
      ∙ (λ k. if sym (passes_is no_job i l) k then acted act (sym before k) else sym before k)

  facts_are : replaced (map (facts_change act old_facts) places) old_facts ≡ facts_acted act s p test
  facts_are =
      let long : length old_facts ≡ length (facts_acted act s p test)
      = length-map js (facts_in s) ∙ sym (length-map js (λ j. if test j then acted act (facts_in s j) else facts_in s j)) in
      let short : length (facts_acted act s p test) ≡ length js = length-map js (λ j. if test j then acted act (facts_in s j) else facts_in s j) in
      named_facts (map (facts_change act old_facts) places) old_facts (facts_acted act s p test) long
      (λ c k. let w = map_has (facts_change act old_facts) c places k in
      let i = its_places w.0 w.1.0 in
      subst (λ (d : FactsChange). (d.position < length (facts_acted act s p test)) × (d.facts ≡ facts_at (facts_acted act s p test) d.position)) w.1.1
      (subst (λ n. w.0 < n) (sym short) i.0, sym (target_at w.0 i.0 ∙ cond-true (passes w.0) (acted act (facts_at old_facts w.0)) (facts_at old_facts w.0) i.1)))
      (λ i l e. let m : i < length js = subst (λ n. i < n) short l in
      sym (target_at i m ∙ cond-false (passes i) (acted act (facts_at old_facts i)) (facts_at old_facts i)
      (⊎_elim
      (λ q. absurd (both_ways (is_named (map (facts_change act old_facts) places) i) e (named_has act old_facts i places (filter_has passes i (range_with_len 0 (length js)) (range_has 0 (length js) i (omega arith) (omega arith)) q))))
      (λ q. q)
      (cases_Bool (passes i)))))

  pub outcome_is : (jobs : List Job) (b : BoardState) (changes : List FactsChange) (o : Outcome) → jobs ≡ js → IsBoardOf s board p b
      → o.places.items ≡ filter (is_acted_at act only (map (λ j. j.id) jobs) b.rows) (range_with_len 0 (length jobs)) → changes ≡ map (facts_change act b.facts) o.places.items
      → (AreRows b.graph b.facts b.rows → o.facts.items ≡ replaced changes b.facts)
      → length o.rows.items ≡ length b.rows → (AreRows b.graph b.facts b.rows → AreRows b.graph (replaced changes b.facts) o.rows.items)
      → o.changed.items ≡ changed_rows (map (λ j. j.id) jobs) b.rows o.rows.items → IsOutcome act only s board p o
  outcome_is jobs b changes o same is at changed facts long right put =
      let after : State = acted_state act only s board p in
      let state : after ≡ t s act p test sound = after_is s act p test sound in
      let places_are : o.places.items ≡ places
      = at ∙ (λ i. filter (is_acted_at act only (map number (same i)) (is.its_rows i)) (range_with_len 0 (length (same i)))) in
      let now : replaced changes b.facts ≡ facts_of after p
      = (λ i. replaced (changed i) b.facts) ∙ ((λ i. replaced (map (facts_change act (is.its_facts i)) (places_are i)) (is.its_facts i))
      ∙ (facts_are ∙ (sym (its_facts s act p test sound) ∙ ap (λ (w : State). facts_of w p) (sym state)))) in
      let w = settled_by s after board p sound are (subst (λ (v : State). IsWithin s v p) (sym state) (within s act p test sound)) jobs b changes
      (record { facts = o.facts; rows = o.rows; changed = o.changed }) same is now facts long right put in
      record {
        within = subst (All (λ i. i < length js)) (sym places_are) (All-from_has (λ i. i < length js) places (λ i k. (its_places i k).0));
        jobs = λ other. ap (map (λ i. slice_index_or js i other)) places_are ∙ jobs_are other;
        facts = w.facts;
        rows = w.rows;
        differing = w.differing;
        board = w.board;
      }

-- ---- places of a board

pub all_there : (r : ℕ → Bool) (n m : ℕ) (places : List ℕ) → places ≡ filter r (range_with_len 0 n) → n ≡ m → All (λ i. i < m) places
all_there r n m places e same =
    subst (λ l. All (λ i. i < m) l) (sym e) (All-from_has (λ i. i < m) (filter r (range_with_len 0 n))
    (λ i k. let w = has_filter r i (range_with_len 0 n) k in let b = in_range 0 n i w.0 in let l : i < 0 + n = b.1 in omega arith))

pub all_positions : (act : Act) (facts : List Facts) (m : ℕ) (places : List ℕ) (changes : List FactsChange) (r : ℕ → Bool) (n : ℕ) → places ≡ filter r (range_with_len 0 n) → n ≡ m → changes ≡ map (facts_change act facts) places
    → All (λ c. c.position < m) changes
all_positions act facts m places changes r n e same is =
    subst (All (λ c. c.position < m)) (sym is) (All-from_has (λ c. c.position < m) (map (facts_change act facts) places)
    (λ c k. let w = map_has (facts_change act facts) c places k in
    subst (λ (d : FactsChange). d.position < m) w.1.1 (has_from_all (λ i. i < m) w.0 places (all_there r n m places e same) w.1.0)))

-- ---- one job

-- of a list in the order of its numbers, those of one number
filter_one : {A : Type 0} (id : A → ℕ) (q : A → Bool) (x : A) (low : ℕ) (xs : List A) → Rising id low xs → Has x xs → filter (λ y. (id y == id x) && q y) xs ≡ cond (q x) (x ∷ []) []
filter_one id q x low [] r h = absurd h
filter_one {A} id q x low (z ∷ zs) r h =
    let one : A → Bool = λ y. (id y == id x) && q y in
    ⊎_elim
    (λ e. let none : filter one zs ≡ [] = filter_none one zs (λ y k. ap (λ b. b && q y) (ne_eqb (id y) (id x) (λ f. let m : id z + 1 ≤ id y = rising_from id y (id z + 1) zs r.1 k in let g : id x ≡ id z = ap id e in absurd (omega arith)))) in
    ap (λ l. cond (one z) (z ∷ l) l) none
    ∙ (ap (λ b. cond b (z ∷ []) []) (ap (λ b. b && q z) (eq-eqb (id z) (id x) (ap id (sym e))))
    ∙ ap (λ (w : A). cond (q w) (w ∷ []) []) (sym e)))
    (λ m. let after : id z + 1 ≤ id x = rising_from id x (id z + 1) zs r.1 m in
    cond-false (one z) (z ∷ filter one zs) (filter one zs) (ap (λ b. b && q z) (ne_eqb (id z) (id x) (λ f. absurd (omega arith))))
    ∙ filter_one id q x (id z + 1) zs r.1 m)
    h

-- where one job is asked for, it is done to this one, or to none
pub one_acted : (act : Act) (s : State) (board : List BoardRow) (job : Job) → Sound s → Has job s.jobs
    → acted_jobs act (Some job.id) s board job.pipeline ≡ (if is_permitted act (status_for board job.id) then job ∷ [] else [])
one_acted act s board job sound has =
    filter_one number (λ (j : Job). is_permitted act (status_for board j.id)) job 0 (jobs_of s job.pipeline)
    (rising_filter number (λ (j : Job). j.pipeline == job.pipeline) 0 s.jobs sound.jobs)
    (its_own s job has)
