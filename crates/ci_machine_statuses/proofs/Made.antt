-- A pipeline is made: its rows come behind all others.
use Rattle.std.proofs.Common.{◌≡◌, ℕ, ◌+◌, ◌-◌, ◌<◌, ◌≤◌, Bool, false, ◌==◌, List, [], ◌∷◌, ◌++◌, length, map, filter, replicate, Contains, None, refl, sym, ap, subst, ◌∙◌, inl}
use Rattle.std.proofs.Common.{inr, arith, eq-eqb, ne_eqb}
use Rattle.std.proofs.lemmas.List.{append-nil, map-append}
use Rattle.std.proofs.lemmas.List.Elements.{filter-append}
use Rattle.ci_machine.specs.Prelude.{is_among}
use Rattle.ci_machine_steps.specs.Prelude.{Facts, AreRows, BoardState, no_facts, Job, Need, Attempt, BoardRow, State, put_rows, pair_of, jobs_of, numbers_of}
use Rattle.ci_machine_steps.specs.Prelude.{pairs_of, graph_of, attempts_of, facts_in, facts_of, rows_of, row_for, AreBoard, pairs_among, predecessors_by}
use Rattle.ci_board.proofs.Assignments.{same_graph}
use Rattle.ci_machine.proofs.Keyed.{Has, Named, Rising, rising_from, filter_none, map_has, has_map, has_from_all, named_contains}
use Rattle.ci_machine.proofs.Filters.{filter_all}
use Rattle.ci_machine_steps.proofs.Behind.{has_right}
use Rattle.ci_machine_steps.proofs.Sound.{Sound, rising_from_ascend}
use Rattle.ci_machine_statuses.specs.Changes.{IsMade}
use Rattle.ci_machine_statuses.proofs.Puts.{number, job_of, cons_same, map_same, map_twice}
use Rattle.ci_machine_statuses.proofs.RowPuts.{rises_like, others_stay, puts_behind, its_row}
use Rattle.ci_machine_statuses.proofs.Positions.{not_among}
use Rattle.ci_machine_statuses.proofs.Facts.{facts_with}
use Rattle.ci_machine_statuses.proofs.Joint.{unmoved_from, board_rises, number_there, rows_same, IsUnmoved, right_again}

-- numbers from low on rise from there
rises_from : {A : Type 0} (id : A → ℕ) (low : ℕ) (xs : List A) → Rising id 0 xs → ((x : A) → Has x xs → low ≤ id x) → Rising id low xs
rises_from id low [] r h = tt
rises_from id low (x ∷ xs) r h = (h x (inl refl), r.1)

rising_append : {A : Type 0} (id : A → ℕ) (low mid : ℕ) (xs ys : List A) → Rising id low xs → ((x : A) → Has x xs → id x < mid) → low ≤ mid → Rising id mid ys → Rising id low (xs ++ ys)
rising_append id low mid [] [] r h l q = tt
rising_append id low mid [] (y ∷ ys) r h l q = (omega (arith, q.0), q.1)
rising_append id low mid (x ∷ xs) ys r h l q = (r.0, rising_append id (id x + 1) mid xs ys r.1 (λ y k. h y (inr k)) (let m : id x < mid = h x (inl refl) in omega arith) q)

-- none of the later ones passes
none_more : {A : Type 0} (p : A → Bool) (xs ys : List A) → ((y : A) → Has y ys → p y ≡ false) → filter p (xs ++ ys) ≡ filter p xs
none_more p xs ys h = filter-append p xs ys ∙ (ap (λ l. filter p xs ++ l) (filter_none p ys h) ∙ append-nil (filter p xs))

all_none : (jobs : List Job) (f : Job → Facts) → ((j : Job) → Has j jobs → f j ≡ no_facts) → map f jobs ≡ replicate (length jobs) no_facts
all_none [] f h = refl
all_none (j ∷ js) f h = cons_same (h j (inl refl)) (all_none js f (λ k m. h k (inr m)))

module _ (s t : State) (board : List BoardRow) (p : ℕ) (jobs : List Job) (needs : List Need) (sound : Sound s) (are : AreBoard s board) (made : IsMade s t p jobs needs) where
  jobs_rise : Rising (λ j. j.id) s.next.job jobs
  jobs_rise = rises_from number s.next.job jobs (rising_from_ascend number jobs made.ascend) (λ j h. has_from_all (λ (i : Job). s.next.job ≤ i.id) j jobs made.behind h)

  -- numbers that are there are before those that are made
  old_job : (n : ℕ) → Named number n s.jobs → n < s.next.job
  old_job n w = subst (λ m. m < s.next.job) w.1.1 (sound.job_below w.0 w.1.0)

  -- ---- the new pipeline

  pub its_jobs : jobs_of t p ≡ jobs
  its_jobs =
      ap (filter (λ (j : Job). j.pipeline == p)) made.all_jobs
      ∙ (filter-append (λ (j : Job). j.pipeline == p) s.jobs jobs
      ∙ ((λ i. filter_none (λ (j : Job). j.pipeline == p) s.jobs (λ j h. ne_eqb j.pipeline p (has_from_all (λ (k : Job). k.pipeline ≡ p → ⊥) j s.jobs made.unused h)) i
      ++ filter_all (λ (j : Job). j.pipeline == p) jobs (λ j h. eq-eqb j.pipeline p (has_from_all (λ (k : Job). k.pipeline ≡ p) j jobs made.within h)) i)))

  its_pairs : pairs_of t p ≡ pairs_among (map (λ j. j.id) jobs) needs
  its_pairs =
      ap (λ (js : List Job). pairs_among (map number js) t.needs) its_jobs
      ∙ ap (map (pair_of (map number jobs)))
      (ap (filter (λ (w : Need). is_among (map number jobs) w.job)) made.all_needs
      ∙ (filter-append (λ (w : Need). is_among (map number jobs) w.job) s.needs needs
      ∙ ap (λ l. l ++ filter (λ (w : Need). is_among (map number jobs) w.job) needs)
      (filter_none (λ (w : Need). is_among (map number jobs) w.job) s.needs
      (λ w h. not_among w.job (map number jobs)
      (λ m k e.
      let v = map_has number m jobs k in
      let z : v.0.id ≡ m = v.1.1 in omega (arith, rising_from number v.0 s.next.job jobs jobs_rise v.1.0, old_job w.job (sound.need_job w h)))))))

  untried : (j : Job) → Has j jobs → facts_in t j ≡ no_facts
  untried j h =
      let none : attempts_of t j.id ≡ []
      = ap (filter (λ (a : Attempt). a.job == j.id)) made.same_attempts
      ∙ filter_none (λ (a : Attempt). a.job == j.id) s.attempts
      (λ a k. ne_eqb a.job j.id (λ e. absurd (omega (arith, rising_from number j s.next.job jobs jobs_rise h, old_job a.job (sound.attempt_job a k))))) in
      let flags = has_from_all (λ (i : Job). (i.cancelled ≡ false) × (i.played ≡ false)) j jobs made.idle h in
      ap (λ (l : List Attempt). facts_with l j) none ∙ (λ i. record { last = None; attempts = (let z : 0 - j.set_aside ≡ 0 = omega arith in z) i; cancelled = flags.0 i; played = flags.1 i })

  pub its_facts : facts_of t p ≡ replicate (length jobs) no_facts
  its_facts = ap (map (facts_in t)) its_jobs ∙ all_none jobs (facts_in t) untried

  module _ (rows : List BoardRow) (keys : map (λ r. r.job) rows ≡ map (λ j. j.id) jobs) where
    abbrev after : List BoardRow
    after = put_rows rows board

    rows_rise : Rising (λ r. r.job) s.next.job rows
    rows_rise = rises_like job_of number s.next.job rows jobs keys jobs_rise

    old_row : (r : BoardRow) → Has r board → r.job < s.next.job
    old_row r h = old_job r.job (map_has number r.job s.jobs (subst (Has r.job) are.keys (has_map job_of r board h)))

    appended : after ≡ board ++ rows
    appended = puts_behind s.next.job rows board rows_rise old_row

    after_rises : Rising (λ r. r.job) 0 after
    after_rises = subst (Rising job_of 0) (sym appended) (rising_append job_of 0 s.next.job board rows (board_rises s board sound are) old_row (omega arith) rows_rise)

    all_keys : map (λ r. r.job) after ≡ map (λ j. j.id) t.jobs
    all_keys =
        ap (map job_of) appended
        ∙ (map-append job_of board rows
        ∙ ((λ i. are.keys i ++ keys i)
        ∙ (sym (map-append number s.jobs jobs) ∙ ap (map number) (sym made.all_jobs))))

    pub its_rows : rows_of t after p ≡ map (λ r. r.row) rows
    its_rows =
        ap (λ (js : List Job). map (row_for after) (map number js)) its_jobs
        ∙ (ap (map (row_for after)) (sym keys)
        ∙ (map_twice (row_for after) job_of rows
        ∙ map_same (λ r. row_for after r.job) (λ r. r.row) rows (λ r h. its_row 0 after r after_rises (subst (Has r) (sym appended) (has_right r board rows h)))))

    -- ---- the others

    old_number : (n : ℕ) → Has n (map (λ j. j.id) s.jobs) → row_for after n ≡ row_for board n
    old_number n h = others_stay rows board n (λ r k e. absurd (omega (arith, rising_from job_of r s.next.job rows rows_rise k, old_job n (map_has number n s.jobs h))))

    pub old_rows : (j : Job) → Has j s.jobs → row_for after j.id ≡ row_for board j.id
    old_rows j h = old_number j.id (has_map number j s.jobs h)

    module _ (q : ℕ) (d : p ≡ q → ⊥) where
      other_jobs : jobs_of t q ≡ jobs_of s q
      other_jobs =
          ap (filter (λ (j : Job). j.pipeline == q)) made.all_jobs
          ∙ none_more (λ (j : Job). j.pipeline == q) s.jobs jobs (λ j h. ne_eqb j.pipeline q (λ e. d (sym (has_from_all (λ (k : Job). k.pipeline ≡ p) j jobs made.within h) ∙ e)))

      other_pairs : pairs_among (numbers_of s q) t.needs ≡ pairs_among (numbers_of s q) s.needs
      other_pairs =
          ap (map (pair_of (numbers_of s q)))
          (ap (filter (λ (w : Need). is_among (numbers_of s q) w.job)) made.all_needs
          ∙ none_more (λ (w : Need). is_among (numbers_of s q) w.job) s.needs needs
          (λ w h. not_among w.job (numbers_of s q) (λ m k e.
          let v = named_contains number w.job jobs (has_from_all (λ (z : Need). Contains (map number jobs) z.job) w needs made.among h) in
          let z : v.0.id ≡ w.job = v.1.1 in
          omega (arith, rising_from number v.0 s.next.job jobs jobs_rise v.1.0, old_job m (map_has number m s.jobs (number_there s q m k))))))

      pub unmoved : IsUnmoved s t board after q
      unmoved =
          unmoved_from s t board after q other_jobs other_pairs
          (λ j h. ap (λ (l : List Attempt). facts_with (filter (λ a. a.job == j.id) l) j) made.same_attempts) (λ n h. old_number n (number_there s q n h))

    module _ (b : BoardState) (its : map (λ r. r.row) rows ≡ b.rows) (parts : b.graph.parts ≡ map (λ j. j.options.part) jobs)
        (predecessors : b.graph.predecessors ≡ predecessors_by (pairs_among (map (λ j. j.id) jobs) needs) (length jobs)) (facts : b.facts ≡ replicate (length jobs) no_facts)
        (right : AreRows b.graph b.facts b.rows) where
      pub new_board : AreBoard t after
      new_board =
          right_again s t board after p are all_keys
          (rows_same refl (its_facts ∙ sym facts) (its_rows ∙ its)
          (same_graph b.graph (graph_of t p) (ap (map (λ (j : Job). j.options.part)) its_jobs ∙ sym parts)
          ((λ i. predecessors_by (its_pairs i) (length (its_jobs i))) ∙ sym predecessors) b.facts b.rows right))
          unmoved
