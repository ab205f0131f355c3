-- What is made of the records of a pipeline is what the state has of it.
use Rattle.std.proofs.Common.{◌≡◌, ℕ, ◌-◌, ◌<◌, ◌≤◌, true, ◌==◌, List, length, map, filter, All, slice_index_or, Result, Ok, Err, IfOk, IfErr, OnOk, nat_cmp, sym, ap, subst, ◌∙◌}
use Rattle.std.proofs.Common.{arith, eqb-true}
use Rattle.std.specs.List.Sorted.{IsStrictlySortedBy}
use Rattle.std.proofs.lemmas.Bool.{and_from, le-leb}
use Rattle.std.proofs.lemmas.List.{get_or-map, length-map}
use Rattle.ci_machine.specs.Prelude.{is_among, IsAcyclic, JobGraph}
use Rattle.ci_machine_steps.specs.Prelude.{BoardState, attempts_of, Job, Need, Attempt, BoardRow, State, is_within, pair_of, jobs_of, numbers_of, graph_of, facts_in, facts_of}
use Rattle.ci_machine_steps.specs.Prelude.{rows_of, row_for, row_or_none, AreBoard, IsSound, pairs_among, predecessors_by}
use Rattle.ci_machine.proofs.Keyed.{Has, Rising, rising_filter, map_has, has_from_all, All-from_has, filter_has, has_filter, has_map, map_rises}
use Rattle.ci_machine.proofs.Filters.{filter_implied, find_implied}
use Rattle.ci_machine_steps.proofs.Sound.{Sound, ascend_from_rising, sound as of_sound}
use Rattle.ci_machine_statuses.specs.Lookups.{AreRecords, AreJobsWithNeeds, tally_of, facts_by}
use Rattle.ci_machine_statuses.specs.Boards.{IsBoardOf, IsGraphOf, IsItsGraph, FitTogether}
use Rattle.ci_machine_statuses.specs.declared.fault.StatusFault.{StatusFault}
use Rattle.ci_machine_statuses.specs.declared.fault.StatusFault.TheVariants.{Broken}
use Rattle.ci_machine_statuses.proofs.Puts.{job_of, number, map_same}
use Rattle.ci_machine_statuses.proofs.Positions.{among_has, ascending, has_among}
use Rattle.ci_machine_statuses.proofs.Joint.{number_there, board_rises}
use Rattle.ci_machine_statuses.proofs.Facts.{facts_with, in_pipeline}
use Rattle.ci_machine_statuses.proofs.ActRecords.{all_attempts}

module _ (s : State) (p : ℕ) (jobs : List Job) (needs : List Need) (sound : Sound s) (are : AreJobsWithNeeds s p jobs needs) where
  all_rise : Rising (λ j. j.id) 0 jobs
  all_rise = subst (Rising number 0) (sym are.are_jobs) (rising_filter number (λ (j : Job). j.pipeline == p) 0 s.jobs sound.jobs)

  pub all_ascend : IsStrictlySortedBy nat_cmp (map (λ j. j.id) jobs)
  all_ascend = ascend_from_rising number 0 jobs all_rise

  -- the number of a job is between the two
  stands_between : (n : ℕ) → Has n (map (λ j. j.id) jobs) → is_within are.first are.last n ≡ true
  stands_between n h =
      let w = map_has number n jobs h in
      subst (λ m. is_within are.first are.last m ≡ true) w.1.1 (has_from_all (λ (j : Job). is_within are.first are.last j.id ≡ true) w.0 jobs are.inside w.1.0)

  same_pairs : pairs_among (map (λ j. j.id) jobs) needs ≡ pairs_among (map (λ j. j.id) jobs) s.needs
  same_pairs =
      ap (λ (l : List Need). pairs_among (map number jobs) l) are.are_needs
      ∙ ap (map (pair_of (map number jobs))) (filter_implied (λ (w : Need). is_among (map number jobs) w.job) (λ w. is_within are.first are.last w.job) s.needs (λ w m e. stands_between w.job (has_among w.job (map number jobs) e)))

  its_pairs : pairs_among (map (λ j. j.id) jobs) needs ≡ pairs_among (numbers_of s p) s.needs
  its_pairs = same_pairs ∙ ap (λ (js : List Job). pairs_among (map number js) s.needs) are.are_jobs

  pub pairs_give : predecessors_by (pairs_among (map (λ j. j.id) jobs) needs) (length jobs) ≡ (graph_of s p).predecessors
  pairs_give = λ i. predecessors_by (its_pairs i) (length (are.are_jobs i))

  abbrev IsNamed : Need → Type 0
  IsNamed w = is_among (map number jobs) w.job ≡ true → is_among (map number jobs) w.pred ≡ true

  -- what was looked up fits together exactly where what the state has does
  pub fits_in : FitTogether (map (λ j. j.id) jobs) needs → FitTogether (numbers_of s p) s.needs
  fits_in fit = subst (λ (js : List Job). FitTogether (map number js) s.needs) are.are_jobs (record {
    named = All-from_has IsNamed s.needs (λ w k e.
        has_from_all IsNamed w needs fit.named (subst (Has w) (sym are.are_needs) (filter_has (λ (v : Need). is_within are.first are.last v.job) w s.needs k (stands_between w.job (has_among w.job (map number jobs) e)))) e);
    acyclic = subst IsAcyclic same_pairs fit.acyclic;
  })

  pub fits_back : FitTogether (numbers_of s p) s.needs → FitTogether (map (λ j. j.id) jobs) needs
  fits_back whole =
      let fit = subst (λ (js : List Job). FitTogether (map number js) s.needs) (sym are.are_jobs) whole in
      record {
        named = All-from_has IsNamed needs (λ w k. has_from_all IsNamed w s.needs fit.named (has_filter (λ (v : Need). is_within are.first are.last v.job) w s.needs (subst (Has w) are.are_needs k)).0);
        acyclic = subst IsAcyclic (sym same_pairs) fit.acyclic;
      }

  -- a graph of the parts and pairs of these jobs is the pipeline's
  pub is_its_graph : (numbers : List ℕ) (g : JobGraph) → numbers ≡ map (λ j. j.id) jobs → g.parts ≡ map (λ j. j.options.part) jobs
      → (IsStrictlySortedBy nat_cmp numbers → g.predecessors ≡ predecessors_by (pairs_among numbers needs) (length jobs))
      → (IsStrictlySortedBy nat_cmp numbers → FitTogether numbers needs) → IsItsGraph s p g
  is_its_graph numbers g same parts predecessors fit =
      let up : IsStrictlySortedBy nat_cmp numbers = subst (IsStrictlySortedBy nat_cmp) (sym same) all_ascend in
      record {
        parts = parts ∙ ap (map (λ (j : Job). j.options.part)) are.are_jobs;
        predecessors = predecessors up ∙ (ap (λ (ns : List ℕ). predecessors_by (pairs_among ns needs) (length jobs)) same ∙ pairs_give);
        fit = fits_in (subst (λ (ns : List ℕ). FitTogether ns needs) same (fit up));
      }

-- what is looked up gives the pipeline's graph
pub graph_given : (numbers : List ℕ) (jobs : List Job) (needs : List Need) (r : Result JobGraph StatusFault) → numbers ≡ map (λ j. j.id) jobs → IfOk r (λ g. g.parts ≡ map (λ j. j.options.part) jobs)
    → IfOk r (λ g. IsStrictlySortedBy nat_cmp numbers → g.predecessors ≡ predecessors_by (pairs_among numbers needs) (length jobs))
    → OnOk r (IsStrictlySortedBy nat_cmp numbers → FitTogether numbers needs)
    → IfOk r (λ g. (s : State) (p : ℕ) → IsSound s → AreJobsWithNeeds s p jobs needs → IsItsGraph s p g)
graph_given numbers jobs needs (Ok g) same parts predecessors fit = λ s p is are. is_its_graph s p jobs needs (of_sound s is) are numbers g same parts predecessors fit
graph_given numbers jobs needs (Err f) same parts predecessors fit = tt

-- and where it fits together in the state, no fault is told of it
pub fault_told : (numbers : List ℕ) (jobs : List Job) (needs : List Need) (r : Result JobGraph StatusFault) → numbers ≡ map (λ j. j.id) jobs
    → IfErr r (λ f. f ≡ Broken → IsStrictlySortedBy nat_cmp numbers → FitTogether numbers needs → ⊥)
    → IfErr r (λ f. f ≡ Broken → (s : State) (p : ℕ) → IsSound s → AreJobsWithNeeds s p jobs needs → FitTogether (numbers_of s p) s.needs → ⊥)
fault_told numbers jobs needs (Ok g) same told = tt
fault_told numbers jobs needs (Err f) same told = λ broken s p is are fit.
    told broken (subst (IsStrictlySortedBy nat_cmp) (sym same) (all_ascend s p jobs needs (of_sound s is) are))
    (subst (λ (ns : List ℕ). FitTogether ns needs) (sym same) (fits_back s p jobs needs (of_sound s is) are fit))

module _ (s : State) (kept : List BoardRow) (p : ℕ) (jobs : List Job) (needs : List Need) (attempts : List Attempt) (rows : List BoardRow)
    (sound : Sound s) (are : AreBoard s kept) (records : AreRecords s kept p jobs needs attempts rows) where
  abbrev its_jobs : AreJobsWithNeeds s p jobs needs
  its_jobs = record { first = records.first; last = records.last; inside = records.inside; are_jobs = records.are_jobs; are_needs = records.are_needs }

  pub numbers_ascend : IsStrictlySortedBy nat_cmp (map (λ j. j.id) jobs)
  numbers_ascend = all_ascend s p jobs needs sound its_jobs

  pub rows_ascend : IsStrictlySortedBy nat_cmp (map (λ r. r.job) rows)
  rows_ascend =
      ascend_from_rising (λ (r : BoardRow). r.job) 0 rows
      (subst (Rising (λ r. r.job) 0) (sym records.are_rows) (rising_filter (λ (r : BoardRow). r.job) (λ r. is_within records.first records.last r.job) 0 kept (board_rises s kept sound are)))

  its_attempts : (j : Job) → Has j jobs → filter (λ a. a.job == j.id) attempts ≡ attempts_of s j.id
  its_attempts = all_attempts s kept p jobs needs attempts rows records

  pub all_facts : map (λ j. facts_by (tally_of attempts j.id) j) jobs ≡ facts_of s p
  all_facts =
      map_same (λ j. facts_by (tally_of attempts j.id) j) (facts_in s) jobs (λ j h. ap (λ (l : List Attempt). facts_with l j) (its_attempts j h))
      ∙ ap (map (facts_in s)) records.are_jobs

  one_row : (n : ℕ) → Has n (map (λ j. j.id) jobs) → row_for rows n ≡ row_for kept n
  one_row n h =
      ap (λ (l : List BoardRow). row_for l n) records.are_rows
      ∙ ap row_or_none (find_implied (λ (r : BoardRow). r.job == n) (λ r. is_within records.first records.last r.job) kept
      (λ r m e. subst (λ m. is_within records.first records.last m ≡ true) (sym (eqb-true r.job n e)) (stands_between s p jobs needs sound its_jobs n h)))

  pub all_rows : map (row_for rows) (map (λ j. j.id) jobs) ≡ rows_of s kept p
  all_rows = map_same (row_for rows) (row_for kept) (map number jobs) one_row ∙ ap (λ (js : List Job). map (row_for kept) (map number js)) records.are_jobs

  -- a board of the graph of these jobs and needs, and of the pipeline's facts and rows, is the pipeline's
  pub is_board_with : (b : BoardState) → IsGraphOf b.graph jobs needs → b.facts ≡ facts_of s p → b.rows ≡ rows_of s kept p → IsBoardOf s kept p b
  is_board_with b of facts its = record {
    parts = of.parts ∙ ap (map (λ (j : Job). j.options.part)) records.are_jobs;
    predecessors = of.predecessors numbers_ascend ∙ pairs_give s p jobs needs sound its_jobs;
    its_facts = facts;
    its_rows = its;
  }

  -- and so is a board of what is looked up
  pub is_board : (numbers : List ℕ) (b : BoardState) → numbers ≡ map (λ j. j.id) jobs → b.graph.parts ≡ map (λ j. j.options.part) jobs
      → (IsStrictlySortedBy nat_cmp numbers → b.graph.predecessors ≡ predecessors_by (pairs_among numbers needs) (length jobs))
      → (IsStrictlySortedBy nat_cmp numbers → b.facts ≡ map (λ j. facts_by (tally_of attempts j.id) j) jobs)
      → (IsStrictlySortedBy nat_cmp (map (λ r. r.job) rows) → b.rows ≡ map (row_for rows) numbers)
      → IsBoardOf s kept p b
  is_board numbers b same parts predecessors facts its =
      let up : IsStrictlySortedBy nat_cmp numbers = subst (IsStrictlySortedBy nat_cmp) (sym same) numbers_ascend in
      is_board_with b (record { parts = parts; predecessors = λ _. predecessors up ∙ ap (λ (ns : List ℕ). predecessors_by (pairs_among ns needs) (length jobs)) same })
      (facts up ∙ all_facts) (its rows_ascend ∙ (ap (map (row_for rows)) same ∙ all_rows))

  -- ---- what is looked up is there

  -- no more attempts of a job are set aside than are there
  pub attempts_are_there : All (λ j. j.set_aside ≤ (tally_of attempts j.id).count) jobs
  attempts_are_there =
      All-from_has (λ (j : Job). j.set_aside ≤ (tally_of attempts j.id).count) jobs
      (λ j h. subst (λ n. j.set_aside ≤ n) (sym (ap length (its_attempts j h))) (sound.aside j (in_pipeline s p j (subst (Has j) records.are_jobs h)).0))

  -- each job has its row
  pub rows_are_there : All (λ n. is_among (map (λ r. r.job) rows) n ≡ true) (map (λ j. j.id) jobs)
  rows_are_there =
      All-from_has (λ n. is_among (map job_of rows) n ≡ true) (map number jobs)
      (λ n h. let r = map_has job_of n kept (subst (Has n) (sym are.keys) (number_there s p n (subst (λ (js : List Job). Has n (map number js)) records.are_jobs h))) in
      let within = subst (λ m. is_within records.first records.last m ≡ true) (sym r.1.1) (stands_between s p jobs needs sound its_jobs n h) in
      among_has n (map job_of rows) (subst (λ m. Has m (map job_of rows)) r.1.1
      (has_map job_of r.0 rows (subst (Has r.0) (sym records.are_rows) (filter_has (λ (x : BoardRow). is_within records.first records.last x.job) r.0 kept r.1.0 within)))))

-- ---- the range of a pipeline's jobs

pub in_between : (s : State) (p : ℕ) (jobs : List Job) (a b : Job) → Sound s → jobs ≡ jobs_of s p → All (λ j. is_within (slice_index_or jobs 0 a).id (slice_index_or jobs (length jobs - 1) b).id j.id ≡ true) jobs
in_between s p jobs a b sound are k d l =
    let rise : Rising number 0 jobs = subst (Rising number 0) (sym are) (rising_filter number (λ (j : Job). j.pipeline == p) 0 s.jobs sound.jobs) in
    let numbers = map_rises number 0 jobs rise in
    let long : length (map number jobs) ≡ length jobs = length-map jobs number in
    let at : (i : ℕ) (x : Job) → i < length jobs → slice_index_or (map number jobs) i 0 ≡ (slice_index_or jobs i x).id = λ i x m. get_or-map number jobs i x 0 m in
    let low : (slice_index_or jobs 0 a).id ≤ (slice_index_or jobs k d).id
    = let up = ascending 0 (map number jobs) numbers 0 k (omega arith) (omega arith) in omega (arith, up, at 0 a (omega arith), at k d l) in
    let high : (slice_index_or jobs k d).id ≤ (slice_index_or jobs (length jobs - 1) b).id
    = let up = ascending 0 (map number jobs) numbers k (length jobs - 1) (omega arith) (omega arith) in omega (arith, up, at (length jobs - 1) b (omega arith), at k d l) in
    and_from _ _ (le-leb (slice_index_or jobs 0 a).id (slice_index_or jobs k d).id low) (le-leb (slice_index_or jobs k d).id (slice_index_or jobs (length jobs - 1) b).id high)
