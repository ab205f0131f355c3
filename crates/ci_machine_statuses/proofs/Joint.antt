-- Where one pipeline's facts change and the rows that differ are put, the rows are those of the state again.
use Rattle.std.proofs.Common.{◌≡◌, ℕ, ◌==◌, List, length, map, refl, sym, ap, subst, ◌∙◌, eqb-true}
use Rattle.std.proofs.lemmas.Bool.{cond_both, eqb-false}
use Rattle.ci_machine.specs.Prelude.{JobGraph}
use Rattle.ci_machine_steps.specs.Prelude.{Facts, Row, AreRows, Job, BoardRow, State, put_rows, jobs_of, numbers_of, graph_of, facts_of, rows_of, row_for, AreBoard}
use Rattle.ci_machine_steps.specs.Prelude.{graph_by, pairs_among, predecessors_by, facts_in}
use Rattle.ci_machine.proofs.Keyed.{Has, Rising, rising_filter, has_map, map_has, map_rises}
use Rattle.ci_machine_steps.proofs.Sound.{Sound}
use Rattle.ci_machine_statuses.specs.Boards.{changed_rows}
use Rattle.ci_machine_statuses.specs.Changes.{IsWithin, HaveSameFacts}
use Rattle.ci_machine_statuses.proofs.Puts.{number, job_of, map_same}
use Rattle.ci_machine_statuses.proofs.RowPuts.{changed_own, changed_other, changed_keys, rises_like}
use Rattle.ci_machine_statuses.proofs.Facts.{in_pipeline, other_pipeline}

-- ---- numbers of a pipeline

pub numbers_rise : (s : State) (p : ℕ) → Sound s → Rising (λ n. n) 0 (numbers_of s p)
numbers_rise s p sound = map_rises number 0 (jobs_of s p) (rising_filter number (λ (j : Job). j.pipeline == p) 0 s.jobs sound.jobs)

-- they are among those of all jobs
pub number_there : (s : State) (p n : ℕ) → Has n (numbers_of s p) → Has n (map (λ j. j.id) s.jobs)
number_there s p n h =
    let w = map_has number n (jobs_of s p) h in
    subst (λ m. Has m (map number s.jobs)) w.1.1 (has_map number w.0 s.jobs (in_pipeline s p w.0 w.1.0).0)

-- a number of one pipeline is none of another
pub apart : (s : State) (p q n : ℕ) → Sound s → (p ≡ q → ⊥) → Has n (numbers_of s p) → Has n (numbers_of s q) → ⊥
apart s p q n sound d h k =
    let a = map_has number n (jobs_of s p) h in
    let b = map_has number n (jobs_of s q) k in
    let i = in_pipeline s p a.0 a.1.0 in
    let j = in_pipeline s q b.0 b.1.0 in
    other_pipeline s sound a.0 b.0 i.0 j.0 (λ e. d (sym i.1 ∙ (e ∙ j.1))) (a.1.1 ∙ sym b.1.1)

pub board_rises : (s : State) (board : List BoardRow) → Sound s → AreBoard s board → Rising (λ r. r.job) 0 board
board_rises s board sound are = rises_like job_of number 0 board s.jobs are.keys sound.jobs

-- ---- rows are right where they were, as long as graph, facts and rows stay

pub rows_same : {g h : JobGraph} {fs gs : List Facts} {rs ss : List Row} → h ≡ g → gs ≡ fs → ss ≡ rs → AreRows g fs rs → AreRows h gs ss
rows_same {g} {h} {fs} {gs} {rs} {ss} a b c r = subst (λ x. AreRows x gs ss) (sym a) (subst (λ x. AreRows g x ss) (sym b) (subst (λ x. AreRows g fs x) (sym c) r))

-- the graph, the facts and the rows of a pipeline are as they were
pub record IsUnmoved (s t : State) (before after : List BoardRow) (pipeline : ℕ) : Type 0 where
  pub graph : graph_of t pipeline ≡ graph_of s pipeline
  pub facts : facts_of t pipeline ≡ facts_of s pipeline
  pub rows : rows_of t after pipeline ≡ rows_of s before pipeline

-- one pipeline's rows are right anew, and all others are unmoved
pub right_again : (s t : State) (before after : List BoardRow) (p : ℕ) → AreBoard s before → map (λ r. r.job) after ≡ map (λ j. j.id) t.jobs
    → AreRows (graph_of t p) (facts_of t p) (rows_of t after p) → ((q : ℕ) → (p ≡ q → ⊥) → IsUnmoved s t before after q) → AreBoard t after
right_again s t before after p are keys here others = record {
  keys = keys;
  each = λ q. cond_both (p == q) 0 0 (λ (_ : ℕ). AreRows (graph_of t q) (facts_of t q) (rows_of t after q))
      (λ e. subst (λ x. AreRows (graph_of t x) (facts_of t x) (rows_of t after x)) (eqb-true p q e) here)
      (λ e. let u = others q (eqb-false p q e) in rows_same u.graph u.facts u.rows (are.each q));
}

-- its jobs, the pairs that their needs are, and the facts and the row of each job are as they were
pub unmoved_from : (s t : State) (before after : List BoardRow) (q : ℕ) → jobs_of t q ≡ jobs_of s q → pairs_among (numbers_of s q) t.needs ≡ pairs_among (numbers_of s q) s.needs
    → ((j : Job) → Has j (jobs_of s q) → facts_in t j ≡ facts_in s j) → ((n : ℕ) → Has n (numbers_of s q) → row_for after n ≡ row_for before n) → IsUnmoved s t before after q
unmoved_from s t before after q jobs pairs facts rows = record {
  graph = ap (λ (js : List Job). graph_by js t.needs) jobs ∙ (λ i. record (graph_of s q) { predecessors = predecessors_by (pairs i) (length (jobs_of s q)) });
  facts = ap (map (facts_in t)) jobs ∙ map_same (facts_in t) (facts_in s) (jobs_of s q) facts;
  rows = ap (λ (js : List Job). map (row_for after) (map number js)) jobs ∙ map_same (row_for after) (row_for before) (numbers_of s q) rows;
}

-- nothing changes
pub unmoved_by : (s t : State) (board : List BoardRow) → HaveSameFacts s t → (q : ℕ) → IsUnmoved s t board board q
unmoved_by s t board same q = record { graph = same.graphs q; facts = same.facts q; rows = ap (map (row_for board)) (same.its_numbers q) }

pub same_facts : (s t : State) (board : List BoardRow) → AreBoard s board → HaveSameFacts s t → AreBoard t board
same_facts s t board are same = record {
  keys = are.keys ∙ sym same.numbers;
  each = λ q. let u = unmoved_by s t board same q in rows_same u.graph u.facts u.rows (are.each q);
}

-- ---- the facts of one pipeline change

module _ (s t : State) (board : List BoardRow) (p : ℕ) (rows : List Row) (sound : Sound s) (are : AreBoard s board) (within : IsWithin s t p)
    (long : length rows ≡ length (numbers_of s p)) (right : AreRows (graph_of s p) (facts_of t p) rows) where
  abbrev after : List BoardRow
  after = put_rows (changed_rows (numbers_of s p) (rows_of s board p) rows) board

  -- then the pipeline's jobs have these rows, and the other pipelines are unmoved
  pub own_rows : rows_of t (put_rows (changed_rows (numbers_of s p) (rows_of s board p) rows) board) p ≡ rows
  own_rows = ap (map (row_for after)) (within.its_numbers p) ∙ changed_own (numbers_of s p) rows board (numbers_rise s p sound) long

  pub elsewhere : (q : ℕ) → (p ≡ q → ⊥) → IsUnmoved s t board (put_rows (changed_rows (numbers_of s p) (rows_of s board p) rows) board) q
  elsewhere q d = record {
    graph = within.graphs q;
    facts = within.facts q d;
    rows = ap (map (row_for after)) (within.its_numbers q)
        ∙ map_same (row_for after) (row_for board) (numbers_of s q) (λ n h. changed_other (numbers_of s p) rows board n (λ z. apart s p q n sound d z h));
  }

  pub settled : AreBoard t (put_rows (changed_rows (numbers_of s p) (rows_of s board p) rows) board)
  settled =
      right_again s t board after p are
      (changed_keys (numbers_of s p) rows board (board_rises s board sound are) (λ n h. subst (Has n) (sym are.keys) (number_there s p n h)) ∙ (are.keys ∙ sym within.numbers))
      (rows_same (within.graphs p) refl own_rows right) elsewhere
