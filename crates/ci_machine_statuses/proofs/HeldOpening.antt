-- Which pipelines aren't finished where one of them changes.
use Rattle.std.proofs.Common.{◌≡◌, ℕ, ◌+◌, ◌<◌, ◌≤◌, Bool, true, false, cond, ◌==◌, not, List, [], ◌∷◌, length, map, filter, option_to_list, refl, sym, ap, subst, ◌∙◌, inl, inr}
use Rattle.std.proofs.Common.{⊎_elim, arith, eq-eqb, ne_eqb}
use Rattle.std.proofs.lemmas.List.{length-map}
use Rattle.std.proofs.lemmas.Bool.{cond-true, cond-false}
use Rattle.ci_machine_steps.specs.Prelude.{Facts, Row, Status, AreRows, statuses, pipeline_status, Pipeline, BoardRow, Unfinished, State, Kept, put_rows, with_open}
use Rattle.ci_machine_steps.specs.Prelude.{without_open, indexed_all, jobs_of, numbers_of, graph_of, facts_of, rows_of, AreBoard, AreRowsOf, status_of_jobs}
use Rattle.ci_machine_steps.specs.Prelude.{is_unfinished, with_status, is_open_in, unfinished_in}
use Rattle.ci_machine.proofs.Keyed.{Has, Rising, rising_from, rising_filter, filter_same}
use Rattle.ci_machine.proofs.Filters.{filter_all}
use Rattle.ci_machine_steps.proofs.Sound.{Sound}
use Rattle.ci_machine_statuses.specs.Boards.{changed_rows}
use Rattle.ci_machine_statuses.specs.Changes.{IsWithin}
use Rattle.ci_machine_statuses.specs.HolderChanges.{turned_by}
use Rattle.ci_machine_statuses.proofs.Puts.{number, cons_same, map_twice, put_first, put_after}
use Rattle.ci_machine_statuses.proofs.RowPuts.{rises_like}
use Rattle.ci_machine_statuses.proofs.Joint.{IsUnmoved, rows_same, own_rows, elsewhere}

abbrev pipeline_id : Pipeline → ℕ
pipeline_id p = p.id

abbrev pub of_row : Unfinished → ℕ
of_row u = u.pipeline

abbrev pub as_row : Pipeline → Unfinished
as_row p = record { pipeline = p.id }

-- the rows after the change of one pipeline
abbrev pub turned_rows : ℕ → Bool → Bool → List Unfinished → List Unfinished
turned_rows n false true us = with_open (record { pipeline = n }) us
turned_rows n true false us = without_open n us
turned_rows n false false us = us
turned_rows n true true us = us

pub all_turned : (n : ℕ) (a b : Bool) (k : Kept) → indexed_all (option_to_list (turned_by n a b)) k ≡ record k { unfinished = turned_rows n a b k.unfinished }
all_turned n false true k = refl
all_turned n true false k = refl
all_turned n false false k = refl
all_turned n true true k = refl

-- ---- one of a list changes

-- those of the list that pass, as rows
abbrev pub passing : (Pipeline → Bool) → List Pipeline → List Unfinished
passing f ps = map as_row (filter f ps)

rows_rise : (low : ℕ) (ps : List Pipeline) → Rising pipeline_id low ps → Rising of_row low (map as_row ps)
rows_rise low ps = rises_like of_row pipeline_id low (map as_row ps) ps (map_twice of_row as_row ps)

-- it is the first
first_turns : (p : Pipeline) (a b : Bool) (ps : List Pipeline) → Rising pipeline_id (p.id + 1) ps
    → turned_rows p.id a b (map as_row (cond a (p ∷ ps) ps)) ≡ map as_row (cond b (p ∷ ps) ps)
first_turns p false true ps r = put_first of_row (as_row p) (p.id + 1) (map as_row ps) (omega arith) (rows_rise (p.id + 1) ps r)
first_turns p true false ps r =
    cond-false (not (p.id == p.id)) (as_row p ∷ without_open p.id (map as_row ps)) (without_open p.id (map as_row ps)) (ap not (eq-eqb p.id p.id refl))
    ∙ filter_all (λ u. not (u.pipeline == p.id)) (map as_row ps)
    (λ u h. ap not (ne_eqb u.pipeline p.id (λ e. absurd (omega (arith, rising_from of_row u (p.id + 1) (map as_row ps) (rows_rise (p.id + 1) ps r) h)))))
first_turns p false false ps r = refl
first_turns p true true ps r = refl

-- it is behind the first
later_turns : (n : ℕ) (a b : Bool) (q : Pipeline) (us : List Unfinished) → q.id < n → turned_rows n a b (as_row q ∷ us) ≡ as_row q ∷ turned_rows n a b us
later_turns n false true q us l = put_after of_row (record { pipeline = n }) (as_row q) us l
later_turns n true false q us l = cond-true (not (q.id == n)) (as_row q ∷ without_open n us) (without_open n us) (ap not (ne_eqb q.id n (λ e. absurd (omega arith))))
later_turns n false false q us l = refl
later_turns n true true q us l = refl

pub turns : (f g : Pipeline → Bool) (p : Pipeline) (low : ℕ) (ps : List Pipeline) → Rising (λ q. q.id) low ps → Has p ps
    → ((q : Pipeline) → Has q ps → (p.id ≡ q.id → ⊥) → g q ≡ f q) → turned_rows p.id (f p) (g p) (passing f ps) ≡ passing g ps
turns f g p low [] r h others = absurd h
turns f g p low (q ∷ ps) r h others =
    ⊎_elim
    (λ e. let i : p.id ≡ q.id = ap pipeline_id e in
    let same : filter f ps ≡ filter g ps = sym (filter_same g f ps (λ x k. others x (inr k) (λ z. absurd (omega (arith, rising_from pipeline_id x (q.id + 1) ps r.1 k))))) in
    subst (λ (x : Pipeline). turned_rows p.id (f p) (g p) (map as_row (cond (f x) (x ∷ filter f ps) (filter f ps))) ≡ map as_row (cond (g x) (x ∷ filter g ps) (filter g ps))) e
    (first_turns p (f p) (g p) (filter f ps) (subst (λ n. Rising pipeline_id (n + 1) (filter f ps)) (sym i) (rising_filter pipeline_id f (q.id + 1) ps r.1))
    ∙ ap (λ (l : List Pipeline). map as_row (cond (g p) (p ∷ l) l)) same))
    (λ m. let l : q.id + 1 ≤ p.id = rising_from pipeline_id p (q.id + 1) ps r.1 m in
    by (f q) (omega arith) (turns f g p (q.id + 1) ps r.1 m (λ x k. others x (inr k)))
    ∙ ap (λ (c : Bool). map as_row (cond c (q ∷ filter g ps) (filter g ps))) (sym (others q (inl refl) (λ e. absurd (omega arith)))))
    h
  where
    by : (c : Bool) → q.id < p.id → turned_rows p.id (f p) (g p) (passing f ps) ≡ passing g ps
        → turned_rows p.id (f p) (g p) (map as_row (cond c (q ∷ filter f ps) (filter f ps))) ≡ map as_row (cond c (q ∷ filter g ps) (filter g ps))
    by true l rest = later_turns p.id (f p) (g p) q (passing f ps) l ∙ cons_same refl rest
    by false l rest = rest

-- ---- a pipeline's status

-- one that is unmoved is unfinished where it was
pub same_open : (s t : State) (b c : List BoardRow) (q : Pipeline) → IsUnmoved s t b c q.id → is_open_in t c q ≡ is_open_in s b q
same_open s t b c q u = λ i. is_unfinished (pipeline_status (u.graph i).parts (u.facts i) (statuses (u.rows i)))

-- ---- one pipeline's facts and rows change

module _ (s t : State) (board : List BoardRow) (p : Pipeline) (sound : Sound s) (are : AreBoard s board) (within : IsWithin s t p.id) (pipelines : t.pipelines ≡ s.pipelines) (has : Has p s.pipelines)
    (facts : List Facts) (rows : List Row) (its_facts : facts ≡ facts_of t p.id) (its_rows : AreRowsOf t p.id rows) where
  abbrev then : List BoardRow
  then = put_rows (changed_rows (numbers_of s p.id) (rows_of s board p.id) rows) board

  long : length rows ≡ length (numbers_of s p.id)
  long = its_rows.long ∙ (sym (length-map (jobs_of t p.id) number) ∙ ap length (within.its_numbers p.id))

  right : AreRows (graph_of s p.id) (facts_of t p.id) rows
  right = rows_same (sym (within.graphs p.id)) refl refl its_rows.settled

  here : is_open_in t then p ≡ is_unfinished (status_of_jobs (jobs_of s p.id) facts rows)
  here = λ i. is_unfinished (pipeline_status (within.graphs p.id i).parts (sym its_facts i) (statuses (own_rows s t board p.id rows sound are within long right i)))

  pub turned_are : (before after : Status) (us : List Unfinished) → before ≡ (with_status s board p).status → after ≡ status_of_jobs (jobs_of s p.id) facts rows
      → us ≡ unfinished_in s board
      → turned_rows p.id (is_unfinished before) (is_unfinished after) us ≡ unfinished_in t (put_rows (changed_rows (numbers_of s p.id) (rows_of s board p.id) rows) board)
  turned_are before after us was is kept =
      (λ i. turned_rows p.id (is_unfinished (was i)) ((ap is_unfinished is ∙ sym here) i) (kept i))
      ∙ (turns (is_open_in s board) (is_open_in t then) p 0 s.pipelines sound.pipelines has
      (λ q h d. same_open s t board then q (elsewhere s t board p.id rows sound are within long right q.id d))
      ∙ ap (passing (is_open_in t then)) (sym pipelines))
