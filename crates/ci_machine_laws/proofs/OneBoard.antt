-- The statuses of each reached state are one assignment.
use Rattle.ci_machine_laws.proofs.Prelude.{rules, rising_from, ◌≡◌, ◌⊎◌, ℕ, zero, suc, ◌+◌, ◌^◌, ◌<◌, ◌≤◌, Bool, true, cond, ◌==◌, ◌||◌, nat_lt, List, [], ◌∷◌, length, map}
use Rattle.ci_machine_laws.proofs.Prelude.{filter, count_by, All, Contains, refl, sym, ap, subst, ◌∙◌, inl, inr, ⊎_elim, arith, eq-eqb, eqb-true, lt-ltb, cases_Bool, cases_lt}
use Rattle.ci_machine_laws.proofs.Prelude.{false≢true, cond-true, cond-false, le-ltb, get_or-map, length-map, number_at, list_at, times, once, is_among, distinct, IsOrder}
use Rattle.ci_machine_laws.proofs.Prelude.{IsStuck, AreWithin, IsWalk, IsAcyclic, firsts_of, has_pair, JobGraph, IsJobGraph, part_at, predecessors_of, row_at, Has, Rising, Below}
use Rattle.ci_machine_laws.proofs.Prelude.{rising_filter, has_filter, filter_has, find_has, has_map, map_has, contains_from_has, has_from_contains, has_from_all, All-from_has}
use Rattle.std.proofs.lemmas.List.FromFn.{get_or-map-range_with_len}
use Rattle.std.proofs.lemmas.List.Sums.{sum_by-cons}
use Rattle.ci_graph.proofs.Steps.{Neighbours, Progress, sources, released, IsReady}
use Rattle.ci_graph.proofs.Counts.{times_here, times_more, once_yes}
use Rattle.ci_graph.proofs.Groups.{has_yes, within_of, times_distinct, among_firsts, neighbours_by, neighbours_are, exact_at}
use Rattle.ci_graph.proofs.Cycles.{are_predecessors, cycle_of}
use Rattle.ci_graph.proofs.Graphs.{graph_of as graph_of_pairs}
use Rattle.ci_graph.proofs.Queues.{ready_first, ready_more, ready_end, ready_stuck}
use Rattle.ci_machine_steps.specs.Prelude.{Status, Effect, Facts, Row, effect, is_open, is_fail, is_bar, status_of_effects, AreRows, facts_at, statuses, no_row, effects_of}
use Rattle.ci_machine_steps.specs.Prelude.{IsAssignment, row_of, BoardRow, Job, Need, Attempt, State, jobs_of, numbers_of, place_in, pair_of, pairs_of, predecessors_by, graph_of}
use Rattle.ci_machine_steps.specs.Prelude.{facts_in, facts_of, row_or_none, row_for, rows_of, AreBoard, is_pending, Past, Leads, grants, WasGranted, JoinsOnePipeline}
use Rattle.ci_machine_steps.specs.Prelude.{HasNoCircle, HasOneBoard, WasPending}
use Rattle.ci_machine_laws.proofs.PutAll.{map_twice}
use Rattle.ci_machine_laws.proofs.Reached.{reached}
use Rattle.ci_machine_laws.proofs.Linked.{Linked}
use Rattle.ci_machine_laws.proofs.AllLaws.{laws}
use Rattle.ci_machine_laws.proofs.Joined.{by_numbers, Joined}
use Rattle.ci_machine_laws.proofs.Held.{held}
use Rattle.ci_machine_laws.proofs.Bounded.{IsWithinLimit, within_limit}
use Rattle.ci_machine.proofs.Keyed.{map_rises, rises_from_map}

-- ---- places of ascending numbers

place_cons : (x : ℕ) (xs : List ℕ) (n : ℕ) → place_in (x ∷ xs) n ≡ cond {A = ℕ} (nat_lt x n) 1 0 + place_in xs n
place_cons x xs n = sum_by-cons (λ m. cond (nat_lt m n) 1 0) x xs

place_past : (x : ℕ) (xs : List ℕ) (n : ℕ) → n ≤ x → place_in (x ∷ xs) n ≡ place_in xs n
place_past x xs n l = let none : cond {A = ℕ} (nat_lt x n) 1 0 ≡ 0 = cond-false (nat_lt x n) 1 0 (le-ltb x n l) in omega (arith, place_cons x xs n)

place_next : (x : ℕ) (xs : List ℕ) (n : ℕ) → x < n → place_in (x ∷ xs) n ≡ suc (place_in xs n)
place_next x xs n l = let one : cond {A = ℕ} (nat_lt x n) 1 0 ≡ 1 = cond-true (nat_lt x n) 1 0 (lt-ltb x n l) in omega (arith, place_cons x xs n)

none_below : (n low : ℕ) (xs : List ℕ) → n ≤ low → Rising (λ m. m) low xs → place_in xs n ≡ 0
none_below n low [] l r = refl
none_below n low (x ∷ xs) l r = place_past x xs n (omega (arith, r.0)) ∙ none_below n (x + 1) xs (omega (arith, r.0)) r.1

-- a number of the list stands at its place
at_place : (n low : ℕ) (xs : List ℕ) → Rising (λ m. m) low xs → Has n xs → (place_in xs n < length xs) × (number_at xs (place_in xs n) ≡ n)
at_place n low [] r h = absurd h
at_place n low (x ∷ xs) r h =
    let At : ℕ → Type 0 = λ k. (k < length (x ∷ xs)) × (number_at (x ∷ xs) k ≡ n) in
    ⊎_elim
    (λ (e : n ≡ x). subst At (sym (place_past x xs n (omega arith) ∙ none_below n (x + 1) xs (omega arith) r.1)) (omega arith, sym e))
    (λ m.
    let w = at_place n (x + 1) xs r.1 m in
    subst At (sym (place_next x xs n (omega (arith, rising_from (λ v. v) n (x + 1) xs r.1 m)))) (omega (arith, w.0), w.1))
    h

has_number : (k : ℕ) (xs : List ℕ) → k < length xs → Has (number_at xs k) xs
has_number k [] l = absurd (omega arith)
has_number zero (x ∷ xs) l = inl refl
has_number (suc k) (x ∷ xs) l = inr (has_number k xs (omega arith))

-- and the number at a place has that place
place_of : (k low : ℕ) (xs : List ℕ) → Rising (λ m. m) low xs → k < length xs → place_in xs (number_at xs k) ≡ k
place_of k low [] r l = absurd (omega arith)
place_of zero low (x ∷ xs) r l = place_past x xs x (omega arith) ∙ none_below x (x + 1) xs (omega arith) r.1
place_of (suc k) low (x ∷ xs) r l =
    let above = rising_from (λ v. v) (number_at xs k) (x + 1) xs r.1 (has_number k xs (omega arith)) in
    place_next x xs (number_at xs k) (omega (arith, above)) ∙ ap suc (place_of k (x + 1) xs r.1 (omega arith))

pub among_is : (xs : List ℕ) (n : ℕ) → is_among xs n ≡ true → Has n xs
among_is [] n e = absurd (false≢true e)
among_is (x ∷ xs) n e =
    ⊎_elim
    (λ t. inl (sym (eqb-true x n t)))
    (λ f. inr (among_is xs n (sym (ap (λ (b : Bool). b || is_among xs n) f) ∙ e)))
    (cases_Bool (x == n))

-- ---- the pairs of a pipeline

module _ (s : State) (pipeline : ℕ) (rise : Rising (λ (j : Job). j.id) 0 s.jobs) (i : Linked s) (is : Joined s.jobs s.needs) where
  abbrev numbers : List ℕ
  numbers = numbers_of s pipeline

  abbrev ids : Job → ℕ
  ids j = j.id

  numbers_rise : Rising (λ n. n) 0 numbers
  numbers_rise = map_rises ids 0 (jobs_of s pipeline) (rising_filter ids (λ (j : Job). j.pipeline == pipeline) 0 s.jobs rise)

  -- both jobs of its pair are the pipeline's
  record IsPairOf (q : ℕ × ℕ) : Type 0 where
    need : Need
    has : Has need s.needs
    job : Has need.job numbers
    pred : Has need.pred numbers
    places : pair_of numbers need ≡ q

  is_pair : (q : ℕ × ℕ) → Has q (pairs_of s pipeline) → IsPairOf q
  is_pair q h =
      let at = map_has (pair_of numbers) q (filter (λ (w : Need). is_among numbers w.job) s.needs) h in
      let w = at.0 in
      let both = has_filter (λ (v : Need). is_among numbers v.job) w s.needs at.1.0 in
      let job : Has w.job numbers = among_is numbers w.job both.1 in
      let j = map_has ids w.job (jobs_of s pipeline) job in
      let of = has_filter (λ (v : Job). v.pipeline == pipeline) j.0 s.jobs j.1.0 in
      let k = i.need_pred w both.0 in
      let same : j.0.pipeline ≡ k.0.pipeline = is.one_pipeline w j.0 k.0 both.0 of.0 k.1.0 j.1.1 k.1.1 in
      let within : (k.0.pipeline == pipeline) ≡ true = subst (λ n. (n == pipeline) ≡ true) same of.1 in
      record {
        need = w;
        has = both.0;
        job = job;
        pred = subst (λ n. Has n numbers) k.1.1 (has_map ids k.0 (jobs_of s pipeline) (filter_has (λ (v : Job). v.pipeline == pipeline) k.0 s.jobs k.1.0 within));
        places = at.1.1;
      }

  pairs_within : AreWithin (length (jobs_of s pipeline)) (pairs_of s pipeline)
  pairs_within = All-from_has (λ (q : ℕ × ℕ). (q.0 < length (jobs_of s pipeline)) × (q.1 < length (jobs_of s pipeline))) (pairs_of s pipeline) (λ q h.
      let p = is_pair q h in
      let within : (n : ℕ) → Has n numbers → place_in numbers n < length (jobs_of s pipeline) = λ n k. omega (arith, (at_place n 0 numbers numbers_rise k).0, length-map (jobs_of s pipeline) ids) in (
        subst (λ n. n < length (jobs_of s pipeline)) (ap (λ (r : ℕ × ℕ). r.0) p.places) (within p.need.pred p.pred),
        subst (λ n. n < length (jobs_of s pipeline)) (ap (λ (r : ℕ × ℕ). r.1) p.places) (within p.need.job p.job),
      ))

  -- a pair of places is one of numbers
  by_number : (a b : ℕ) → Contains (pairs_of s pipeline) (a, b) → Contains (by_numbers s.needs) (number_at numbers a, number_at numbers b)
  by_number a b c =
      let p = is_pair (a, b) (has_from_contains (a, b) (pairs_of s pipeline) c) in
      let w = p.need in
      let first : w.pred ≡ number_at numbers a = sym (at_place w.pred 0 numbers numbers_rise p.pred).1 ∙ ap (λ (r : ℕ × ℕ). number_at numbers r.0) p.places in
      let second : w.job ≡ number_at numbers b = sym (at_place w.job 0 numbers numbers_rise p.job).1 ∙ ap (λ (r : ℕ × ℕ). number_at numbers r.1) p.places in
      let there : Contains (by_numbers s.needs) (w.pred, w.job) = contains_from_has (w.pred, w.job) (by_numbers s.needs) (has_map (λ (v : Need). (v.pred, v.job)) w s.needs p.has) in
      subst (λ y. Contains (by_numbers s.needs) (number_at numbers a, y)) second (subst (λ x. Contains (by_numbers s.needs) (x, w.job)) first there)

  walks : (a : ℕ) (ks : List ℕ) (b : ℕ) → IsWalk (pairs_of s pipeline) a ks b → IsWalk (by_numbers s.needs) (number_at numbers a) (map (number_at numbers) ks) (number_at numbers b)
  walks a [] b c = by_number a b c
  walks a (k ∷ ks) b w = (by_number a k w.0, walks k ks b w.1)

  pairs_acyclic : IsAcyclic (pairs_of s pipeline)
  pairs_acyclic c = is.acyclic (number_at numbers c.0, (map (number_at numbers) c.1.0, walks c.0 c.1.0 c.0 c.1.1))

  -- a job's number stands at its place
  job_at_place : (j : Job) → Has j s.jobs → j.pipeline ≡ pipeline → (place_in numbers j.id < length numbers) × (number_at numbers (place_in numbers j.id) ≡ j.id)
  job_at_place j h e =
      at_place j.id 0 numbers numbers_rise (has_map ids j (jobs_of s pipeline) (filter_has (λ (v : Job). v.pipeline == pipeline) j s.jobs h (eq-eqb j.pipeline pipeline e)))

-- ---- two assignments of a graph without circles

-- each graph with facts has one assignment
abbrev pub OneAssignment : Type 0
OneAssignment =
    (g : JobGraph) → IsJobGraph g → (facts : List Facts) → length facts ≡ length g.parts
    → ((rows : List Row) × AreRows g facts rows) × ((a b : ℕ → Status) → IsAssignment g facts a → IsAssignment g facts b → (i : ℕ) → i < length g.parts → a i ≡ b i)

-- the predecessors that a state's graph has of a job are those of the pairs
exact_in : (pairs : List (ℕ × ℕ)) (n j : ℕ) → j < n → list_at (predecessors_by pairs n) j ≡ distinct (firsts_of pairs j)
exact_in pairs n j l = get_or-map-range_with_len (λ place. distinct (firsts_of pairs place)) 0 n j j [] l (omega arith)

-- a predecessor is one of the pairs
pred_of_pair : (pairs : List (ℕ × ℕ)) (i j : ℕ) (predecessors : List ℕ) → predecessors ≡ distinct (firsts_of pairs j) → 0 < times i predecessors → Contains pairs (i, j)
pred_of_pair pairs i j predecessors is m =
    let some : 0 < times i (distinct (firsts_of pairs j)) = subst (λ (xs : List ℕ). 0 < times i xs) is m in
    let counted : times i (distinct (firsts_of pairs j)) ≡ once (has_pair pairs i j) = times_distinct i (firsts_of pairs j) ∙ ap once (among_firsts pairs i j) in
    has_yes pairs i j (once_yes (has_pair pairs i j) (subst (λ k. 0 < k) counted some))

map_members : (f h : ℕ → Effect) (xs : List ℕ) → ((x : ℕ) → 0 < times x xs → f x ≡ h x) → map f xs ≡ map h xs
map_members f h [] e = refl
map_members f h (x ∷ xs) e = λ i. e x (times_here x xs) i ∷ map_members f h xs (λ y l. e y (let m : times y xs ≤ times y (x ∷ xs) = times_more y x xs in omega arith)) i

-- the graph whole, with successors and an order
module _ (g : JobGraph) (pairs : List (ℕ × ℕ)) (within : AreWithin (length g.parts) pairs) (acyclic : IsAcyclic pairs) (few : length g.parts < 2 ^ 64)
    (exact : (j : ℕ) → j < length g.parts → predecessors_of g j ≡ distinct (firsts_of pairs j)) where
  abbrev n : ℕ
  n = length g.parts

  abbrev near : Neighbours
  near = neighbours_by n pairs

  -- the positions taken one after the other, up to the last
  finish : (f k : ℕ) (t : Progress) → f + k ≡ n → IsReady n near.predecessors k t → ((order : List ℕ) × IsOrder n near.predecessors order) ⊎ ((taken : List ℕ) × IsStuck n near.predecessors taken)
  finish zero k t e h = inl (t.queue, ready_end n near.predecessors k t (omega arith) h)
  finish (suc f) k t e h = ⊎_elim
      (λ (l : k < length t.queue). finish f (k + 1) (released (list_at near.successors (number_at t.queue k)) t) (omega arith)
      (ready_more n pairs near.predecessors near.successors k t (released (list_at near.successors (number_at t.queue k)) t) (neighbours_are n pairs within) h l refl))
      (λ (l : length t.queue ≤ k). inr (t.queue, ready_stuck n near.predecessors k t h (omega arith) l))
      (cases_lt k (length t.queue))

  ordered : (order : List ℕ) × IsOrder n near.predecessors order
  ordered =
      let left : List ℕ = map length near.predecessors in
      let start : Progress = record { queue = sources 0 left; left = left } in
      ⊎_elim
      (λ (o : (order : List ℕ) × IsOrder n near.predecessors order). o)
      (λ (o : (taken : List ℕ) × IsStuck n near.predecessors taken). absurd (acyclic (cycle_of n pairs near.predecessors o.0 (are_predecessors n pairs near within (neighbours_are n pairs within)) o.1)))
      (finish n 0 start (omega arith) (ready_first n near.predecessors start (neighbours_are n pairs within).predecessors_long refl refl))

  abbrev whole : JobGraph
  whole = record { parts = g.parts; predecessors = near.predecessors; successors = near.successors; order = ordered.0; meter = 0 }

  is_whole : IsJobGraph whole
  is_whole = graph_of_pairs whole pairs within few (neighbours_are n pairs within) ordered.1

  same_predecessors : (j : ℕ) → j < n → predecessors_of g j ≡ predecessors_of whole j
  same_predecessors j l = exact j l ∙ sym (exact_at n pairs within j l)

  -- an assignment of the one is one of the other
  of_whole : (facts : List Facts) (a : ℕ → Status) → IsAssignment g facts a → IsAssignment whole facts a
  of_whole facts a is j l =
      is j l
      ∙ ap (λ (ps : List ℕ). status_of_effects (part_at g j) (facts_at facts j) (map (λ p. effect (part_at g p) (facts_at facts p) (part_at g j).gives_needs (a p)) ps)) (same_predecessors j l)

  below : (j x : ℕ) → j < length g.parts → 0 < times x (predecessors_of g j) → x < length g.parts
  below j x l m = (within_of n pairs within x j (pred_of_pair pairs x j (predecessors_of g j) (exact j l) m)).0

  -- alike statuses of its jobs have alike effects, and come out in alike rows
  effects_alike : (facts : List Facts) (a b : ℕ → Status) → ((j : ℕ) → j < length g.parts → a j ≡ b j) → (j : ℕ) → j < length g.parts → effects_of g facts a j ≡ effects_of g facts b j
  effects_alike facts a b alike j l =
      map_members _ _ (predecessors_of g j) (λ x m. ap (λ (s : Status). effect (part_at g x) (facts_at facts x) (part_at g j).gives_needs s) (alike x (below j x l m)))

  row_alike : (facts : List Facts) (a b : ℕ → Status) → ((j : ℕ) → j < length g.parts → a j ≡ b j) → (j : ℕ) → j < length g.parts → row_of g facts a j ≡ row_of g facts b j
  row_alike facts a b alike j l =
      let effects = effects_alike facts a b alike j l in
      λ t. record { status = alike j l t; opens = count_by is_open (effects t); failed = count_by is_fail (effects t); barred = count_by is_bar (effects t) }

  module _ (law : OneAssignment) (facts : List Facts) (long : length facts ≡ length g.parts) (a b : ℕ → Status) (first : IsAssignment g facts a) (second : IsAssignment g facts b) where
    same_status : (j : ℕ) → j < length g.parts → a j ≡ b j
    same_status j l = (law whole is_whole facts long).1 a b (of_whole facts a first) (of_whole facts b second) j l

    same_row : (j : ℕ) → j < length g.parts → row_of g facts a j ≡ row_of g facts b j
    same_row j l = row_alike facts a b same_status j l

  -- with any facts it has rows
  some_rows : OneAssignment → (facts : List Facts) → length facts ≡ length g.parts → (rows : List Row) × AreRows g facts rows
  some_rows law facts long =
      let w = (law whole is_whole facts long).0 in
      let a = statuses w.0 in
      let effects : (j : ℕ) → j < length g.parts → effects_of whole facts a j ≡ effects_of g facts a j
      = λ j l. ap (λ (ps : List ℕ). map (λ p. effect (part_at g p) (facts_at facts p) (part_at g j).gives_needs (a p)) ps) (sym (same_predecessors j l)) in (
        w.0,
        record {
          is = λ j l. w.1.is j l ∙ ap (status_of_effects (part_at g j) (facts_at facts j)) (effects j l);
          each = λ j l. w.1.each j l ∙ (λ t. record { status = a j; opens = count_by is_open (effects j l t); failed = count_by is_fail (effects j l t); barred = count_by is_bar (effects j l t) });
        },
      )

  -- rows are judged by those of its jobs alone
  rows_alike : (facts : List Facts) (xs ys : List Row) → ((j : ℕ) → j < length g.parts → row_at ys j ≡ row_at xs j) → AreRows g facts xs → AreRows g facts ys
  rows_alike facts xs ys alike are =
      let status : (j : ℕ) → j < length g.parts → statuses xs j ≡ statuses ys j = λ j l. sym (ap (λ (r : Row). r.status) (alike j l)) in
      record {
        is = λ j l. sym (status j l) ∙ (are.is j l ∙ ap (status_of_effects (part_at g j) (facts_at facts j)) (effects_alike facts (statuses xs) (statuses ys) status j l));
        each = λ j l. alike j l ∙ (are.each j l ∙ row_alike facts (statuses xs) (statuses ys) status j l);
      }

-- ---- two boards

-- lists of rows with the same numbers, each of which has one row in both
module _ (xs ys : List BoardRow) (low : ℕ) (rise_xs : Rising (λ (r : BoardRow). r.job) low xs) (rise_ys : Rising (λ (r : BoardRow). r.job) low ys)
    (same : (r : BoardRow) → Has r xs → row_for xs r.job ≡ row_for ys r.job) where
  found : (zs : List BoardRow) → Rising (λ (r : BoardRow). r.job) low zs → (r : BoardRow) → Has r zs → row_for zs r.job ≡ r.row
  found zs rise r h = ap row_or_none (find_has (λ (q : BoardRow). q.job) r low zs rise h)

  tails : (us vs : List BoardRow) → ((r : BoardRow) → Has r us → Has r xs) → ((r : BoardRow) → Has r vs → Has r ys) → map (λ (r : BoardRow). r.job) us ≡ map (λ (r : BoardRow). r.job) vs → us ≡ vs
  tails [] [] in_xs in_ys e = refl
  tails [] (v ∷ vs) in_xs in_ys e = absurd (cc)
  tails (u ∷ us) [] in_xs in_ys e = absurd (cc)
  tails (u ∷ us) (v ∷ vs) in_xs in_ys e =
      let job : u.job ≡ v.job = cc in
      let rest : map (λ (r : BoardRow). r.job) us ≡ map (λ (r : BoardRow). r.job) vs = cc in
      let row : u.row ≡ v.row = sym (found xs rise_xs u (in_xs u (inl refl))) ∙ (same u (in_xs u (inl refl)) ∙ (ap (row_for ys) job ∙ found ys rise_ys v (in_ys v (inl refl)))) in
      let more = tails us vs (λ r h. in_xs r (inr h)) (λ r h. in_ys r (inr h)) rest in
      λ t. record { job = job t; row = row t } ∷ more t

  pub same_board : map (λ (r : BoardRow). r.job) xs ≡ map (λ (r : BoardRow). r.job) ys → xs ≡ ys
  same_board e = tails xs ys (λ r h. h) (λ r h. h) e

-- ---- a board of the rows of each pipeline

module _ (s : State) (rise : Rising (λ (j : Job). j.id) 0 s.jobs) (rows : ℕ → List Row) where
  abbrev row_of_job : Job → BoardRow
  row_of_job j = record { job = j.id; row = row_at (rows j.pipeline) (place_in (numbers_of s j.pipeline) j.id) }

  abbrev pub assembled : List BoardRow
  assembled = map row_of_job s.jobs

  pub its_keys : map (λ (r : BoardRow). r.job) assembled ≡ map (λ (j : Job). j.id) s.jobs
  its_keys = sym (map_twice (λ (r : BoardRow). r.job) row_of_job s.jobs)

  its_row : (j : Job) → Has j s.jobs → row_for assembled j.id ≡ row_at (rows j.pipeline) (place_in (numbers_of s j.pipeline) j.id)
  its_row j k =
      ap row_or_none (find_has (λ (r : BoardRow). r.job) (row_of_job j) 0 assembled
      (rises_from_map (λ (r : BoardRow). r.job) 0 assembled (subst (Rising (λ n. n) 0) (sym its_keys) (map_rises (λ (j : Job). j.id) 0 s.jobs rise)))
      (has_map row_of_job j s.jobs k))

  -- each pipeline's rows stand there as they were given
  pub its_rows : (pipeline k : ℕ) → k < length (jobs_of s pipeline) → row_at (rows_of s assembled pipeline) k ≡ row_at (rows pipeline) k
  its_rows pipeline k l =
      let numbers = numbers_of s pipeline in
      let its : Job → Bool = λ j. j.pipeline == pipeline in
      let within : k < length numbers = subst (λ n. k < n) (sym (length-map (jobs_of s pipeline) (λ (j : Job). j.id))) l in
      let numbers_rise : Rising (λ n. n) 0 numbers = map_rises (λ (j : Job). j.id) 0 (jobs_of s pipeline) (rising_filter (λ (j : Job). j.id) its 0 s.jobs rise) in
      let w = map_has (λ (j : Job). j.id) (number_at numbers k) (jobs_of s pipeline) (has_number k numbers within) in
      let of = has_filter its w.0 s.jobs w.1.0 in
      let same : w.0.pipeline ≡ pipeline = eqb-true w.0.pipeline pipeline of.1 in
      get_or-map (row_for assembled) numbers k 0 no_row within
      ∙ (ap (row_for assembled) (sym w.1.1)
      ∙ (its_row w.0 of.0
      ∙ ((λ i. row_at (rows (same i)) (place_in (numbers_of s (same i)) (w.1.1 i)))
      ∙ ap (row_at (rows pipeline)) (place_of k 0 numbers numbers_rise within))))

-- ---- every state that a history leads to

no_circle_in : (s : State) → Rising (λ (j : Job). j.id) 0 s.jobs → Linked s → Joined s.jobs s.needs → HasNoCircle s
no_circle_in s rise i is = record {
  joined = All-from_has (JoinsOnePipeline s) s.needs (λ w h.
      let j = i.need_job w h in
      let k = i.need_pred w h in
      let one_pipeline = is.one_pipeline w j.0 k.0 h j.1.0 k.1.0 j.1.1 k.1.1 in
      search (rules, contains_from_has));
  within = λ pipeline. pairs_within s pipeline rise i is;
  acyclic = λ pipeline. pairs_acyclic s pipeline rise i is;
}

-- records whose numbers rise from low on and are below a number are no more than fit between
rising_few : {A : Type 0} (id : A → ℕ) (low high : ℕ) (xs : List A) → Rising id low xs → Below id high xs → low ≤ high → length xs + low ≤ high
rising_few id low high [] r b l = omega arith
rising_few id low high (x ∷ xs) r b l =
    let below : id x < high = b x (inl refl) in
    omega (arith, r.0, rising_few id (id x + 1) high xs r.1 (λ y h. b y (inr h)) (omega arith))

module _ (law : OneAssignment) (s : State) (rise : Rising (λ (j : Job). j.id) 0 s.jobs) (i : Linked s) (is : Joined s.jobs s.needs) (limit : IsWithinLimit s) where
  parts_long : (pipeline : ℕ) → length (graph_of s pipeline).parts ≡ length (jobs_of s pipeline)
  parts_long pipeline = length-map (jobs_of s pipeline) (λ (j : Job). j.options.part)

  within_parts : (pipeline : ℕ) → AreWithin (length (graph_of s pipeline).parts) (pairs_of s pipeline)
  within_parts pipeline = subst (λ n. AreWithin n (pairs_of s pipeline)) (sym (parts_long pipeline)) (pairs_within s pipeline rise i is)

  exact : (pipeline j : ℕ) → j < length (graph_of s pipeline).parts → predecessors_of (graph_of s pipeline) j ≡ distinct (firsts_of (pairs_of s pipeline) j)
  exact pipeline j l = exact_in (pairs_of s pipeline) (length (jobs_of s pipeline)) j (subst (λ n. j < n) (parts_long pipeline) l)

  facts_long : (pipeline : ℕ) → length (facts_of s pipeline) ≡ length (graph_of s pipeline).parts
  facts_long pipeline = length-map (jobs_of s pipeline) (facts_in s) ∙ sym (parts_long pipeline)

  few : (pipeline : ℕ) → length (graph_of s pipeline).parts < 2 ^ 64
  few pipeline =
      let its : Job → Bool = λ j. j.pipeline == pipeline in
      omega (
        arith,
        limit,
        parts_long pipeline,
        rising_few (λ (j : Job). j.id) 0 s.next.job (jobs_of s pipeline) (rising_filter (λ (j : Job). j.id) its 0 s.jobs rise) (λ j h. i.job_below j (has_filter its j s.jobs h).0) (omega arith),
      )

  one_only : (pipeline : ℕ) (a b : ℕ → Status) → IsAssignment (graph_of s pipeline) (facts_of s pipeline) a → IsAssignment (graph_of s pipeline) (facts_of s pipeline) b
      → (j : ℕ) → j < length (jobs_of s pipeline) → a j ≡ b j
  one_only pipeline a b first second j l =
      same_status (graph_of s pipeline) (pairs_of s pipeline) (within_parts pipeline) (pairs_acyclic s pipeline rise i is) (few pipeline) (exact pipeline) law (facts_of s pipeline) (facts_long pipeline) a b first second j
      (subst (λ n. j < n) (sym (parts_long pipeline)) l)

  -- with any facts of its jobs a pipeline has rows
  pub rows_with : (pipeline : ℕ) (facts : List Facts) → length facts ≡ length (jobs_of s pipeline) → (rows : List Row) × AreRows (graph_of s pipeline) facts rows
  rows_with pipeline facts long =
      some_rows (graph_of s pipeline) (pairs_of s pipeline) (within_parts pipeline) (pairs_acyclic s pipeline rise i is) (few pipeline) (exact pipeline) law facts (long ∙ sym (parts_long pipeline))

  pub rows_like : (pipeline : ℕ) (facts : List Facts) (xs ys : List Row) → ((j : ℕ) → j < length (jobs_of s pipeline) → row_at ys j ≡ row_at xs j) → AreRows (graph_of s pipeline) facts xs → AreRows (graph_of s pipeline) facts ys
  rows_like pipeline facts xs ys alike are =
      rows_alike (graph_of s pipeline) (pairs_of s pipeline) (within_parts pipeline) (pairs_acyclic s pipeline rise i is) (few pipeline) (exact pipeline) facts xs ys
      (λ j l. alike j (subst (λ n. j < n) (parts_long pipeline) l)) are

  -- the rows of a pipeline are one list
  same_rows : (pipeline : ℕ) (xs ys : List Row) → AreRows (graph_of s pipeline) (facts_of s pipeline) xs → AreRows (graph_of s pipeline) (facts_of s pipeline) ys
      → (j : ℕ) → j < length (graph_of s pipeline).parts → row_at xs j ≡ row_at ys j
  same_rows pipeline xs ys first second j l =
      let g = graph_of s pipeline in
      let facts = facts_of s pipeline in
      first.each j l
      ∙ (same_row g (pairs_of s pipeline) (within_parts pipeline) (pairs_acyclic s pipeline rise i is) (few pipeline) (exact pipeline) law facts (facts_long pipeline) (statuses xs) (statuses ys) first.is second.is j l
      ∙ sym (second.each j l))

  row_in : (board : List BoardRow) (pipeline k : ℕ) → k < length (numbers_of s pipeline) → row_at (rows_of s board pipeline) k ≡ row_for board (number_at (numbers_of s pipeline) k)
  row_in board pipeline k l = get_or-map (row_for board) (numbers_of s pipeline) k 0 no_row l

  same_for : (xs ys : List BoardRow) → AreBoard s xs → AreBoard s ys → (j : Job) → Has j s.jobs → row_for xs j.id ≡ row_for ys j.id
  same_for xs ys first second j h =
      let p = j.pipeline in
      let k = place_in (numbers_of s p) j.id in
      let at = job_at_place s p rise i is j h refl in
      let below : k < length (numbers_of s p) = at.0 in
      let long : length (numbers_of s p) ≡ length (jobs_of s p) = length-map (jobs_of s p) (λ (w : Job). w.id) in
      let parts : length (graph_of s p).parts ≡ length (jobs_of s p) = parts_long p in
      ap (row_for xs) (sym at.1)
      ∙ (sym (row_in xs p k at.0)
      ∙ (same_rows p (rows_of s xs p) (rows_of s ys p) (first.each p) (second.each p) k (omega arith)
      ∙ (row_in ys p k at.0 ∙ ap (row_for ys) at.1)))

  one_list : (xs ys : List BoardRow) → AreBoard s xs → AreBoard s ys → xs ≡ ys
  one_list xs ys first second =
      let rows_rise : (zs : List BoardRow) → AreBoard s zs → Rising (λ (r : BoardRow). r.job) 0 zs
      = λ zs are. rises_from_map (λ (r : BoardRow). r.job) 0 zs (subst (Rising (λ n. n) 0) (sym are.keys) (map_rises (λ (j : Job). j.id) 0 s.jobs rise)) in
      same_board xs ys 0 (rows_rise xs first) (rows_rise ys second)
      (λ r h.
      let named = map_has (λ (j : Job). j.id) r.job s.jobs (subst (Has r.job) first.keys (has_map (λ (q : BoardRow). q.job) r xs h)) in
      subst (λ n. row_for xs n ≡ row_for ys n) named.1.1 (same_for xs ys first second named.0 named.1.0))
      (first.keys ∙ sym second.keys)

-- ---- the laws

pub no_circle : (h : List Past) (s : State) → Leads h s → HasNoCircle s
no_circle h s leads = let held = held h s leads in no_circle_in s (reached h s leads).grants.jobs_rise held.linked held.joined

pub one_board : OneAssignment → (h : List Past) (s : State) → Leads h s → HasOneBoard s
one_board law h s leads =
    let rise = (reached h s leads).grants.jobs_rise in
    let held = held h s leads in
    let linked = held.linked in
    let is = held.joined in
    let limit = within_limit h s leads in
    let some = (laws h s leads).settled in
    record {
      board = some.0;
      are_board = some.1;
      only = λ other are. one_list law s rise linked is limit other some.0 are some.1;
      one_assignment = one_only law s rise linked is limit;
    }

leads_before : (h : List Past) (s : State) → Leads h s → (p : Past) → Has p h → (g : List Past) × Leads g p.before
leads_before [] s l p k = absurd k
leads_before (q ∷ h) s l p k = ⊎_elim (λ e. (h, subst (λ (w : Past). Leads h w.before) (sym e) l.0)) (λ m. leads_before h q.before l.0 p m) k

was_pending : OneAssignment → (h : List Past) (s : State) → Leads h s → (a : Attempt) → WasGranted h a → WasPending h a
was_pending law h s leads a w =
    let e = w.eligible in
    let before = leads_before h s leads w.line (has_filter (grants a.id) w.line h (subst (Has w.line) (sym w.once) (inl refl))).0 in
    let one = one_board law before.0 w.line.before before.1 in
    record {
      line = w.line;
      once = w.once;
      job = w.job;
      is_job = e.is_job;
      its_job = w.its_job;
      pending = record { one = one; pending = subst (λ board. is_pending board w.job ≡ true) (one.only e.board e.are_board) e.pending };
    }

pub all_pending : OneAssignment → (h : List Past) (s : State) → Leads h s → All (WasPending h) s.attempts
all_pending law h s leads =
    All-from_has (WasPending h) s.attempts (λ a k. was_pending law h s leads a (has_from_all (WasGranted h) a s.attempts (laws h s leads).was_granted k))
