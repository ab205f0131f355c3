-- Rows and assignments of statuses.
use Rattle.std.proofs.Common.{◌≡◌, ◌⊎◌, ◌↔◌, ℕ, zero, suc, ◌+◌, ◌<◌, ◌≤◌, ◌==◌, Bool, true, false, cond, not, ◌&&◌, ◌||◌, List, [], ◌∷◌, map, length, refl, sym, ap, ◌∙◌, arith, ⊎_elim, count_by}
use Rattle.std.specs.List.{list_any}
use Rattle.std.proofs.lemmas.Bool.{ne_eqb}
use Rattle.std.proofs.lemmas.List.{length-map, get_or-map}
use Rattle.std.proofs.lemmas.List.Sums.{sum_by-cons}
use Rattle.ci_board.specs.Prelude.{number_at, tally, times, JobGraph, IsJobGraph, part_at, predecessors_of, Part, When, Status, Effect, Facts, Row, effect, is_open, is_fail}
use Rattle.ci_board.specs.Prelude.{is_bar, is_met, idle_status, status_by, status_of_effects, waits_for_play, is_met_by_counts, idle_by_counts, status_of_row, standing, AreRows}
use Rattle.ci_board.specs.Prelude.{AreNumbered, facts_at, row_at, statuses, no_row, effects_of, IsAssignment, IsStatusOf, HaveAssignment, pipeline_status, first_row, PassState}
use Rattle.ci_board.specs.Prelude.{passed}
use Rattle.ci_graph.proofs.Counts.{times_here, times_more, times_at}
use Rattle.ci_board.proofs.Counted.{AreCounted, effect_at, AreCountedRows}
use Rattle.ci_board.proofs.Orders.{ComeInOrder, HasCome, in_order, all_come}
use Rattle.ci_board.proofs.Whole.{final_rows, final_facts}
use Rattle.ci_board.proofs.Unique.{tally_members, one_counted}

-- tallies over positions are counts over their effects
counted_step : (b : Bool) (n m : ℕ) → n ≡ m → cond b (suc n) n ≡ cond b 1 0 + m
counted_step true n m e = omega arith
counted_step false n m e = omega arith

counted : (p : Effect → Bool) (f : ℕ → Effect) (ps : List ℕ) → tally (λ x. p (f x)) ps ≡ count_by p (map f ps)
counted p f [] = refl
counted p f (x ∷ xs) =
    counted_step (p (f x)) (tally (λ y. p (f y)) xs) (count_by p (map f xs)) (counted p f xs)
    ∙ sym (sum_by-cons (λ (e : Effect). cond (p e) 1 0) (f x) (map f xs))

any_step : (b a : Bool) (m n : ℕ) → n ≡ cond b 1 0 + m → a ≡ not (m == 0) → (b || a) ≡ not (n == 0)
any_step true a m n q e = ap not (sym (ne_eqb n 0 (λ (z : n ≡ 0). omega arith)))
any_step false a m n q e = e ∙ ap (λ (k : ℕ). not (k == 0)) (let r : m ≡ n = omega arith in r)

any_is : (p : Effect → Bool) (es : List Effect) → list_any p es ≡ not (count_by p es == 0)
any_is p [] = refl
any_is p (e ∷ es) =
    any_step (p e) (list_any p es) (count_by p es) (count_by p (e ∷ es)) (sum_by-cons (λ (x : Effect). cond (p x) 1 0) e es) (any_is p es)

both_not : (a b : Bool) → (a && b) ≡ (not (not a) && not (not b))
both_not true true = refl
both_not true false = refl
both_not false true = refl
both_not false false = refl

none_of : (es : List Effect) → ((count_by is_fail es == 0) && (count_by is_bar es == 0)) ≡ (not (list_any is_fail es) && not (list_any is_bar es))
none_of es =
    both_not (count_by is_fail es == 0) (count_by is_bar es == 0)
    ∙ (ap (λ (t : Bool). not t && not (not (count_by is_bar es == 0))) (sym (any_is is_fail es))
    ∙ ap (λ (t : Bool). not (list_any is_fail es) && not t) (sym (any_is is_bar es)))

met_is : (w : When) (es : List Effect) → is_met_by_counts w (count_by is_fail es) (count_by is_bar es) ≡ is_met w es
met_is When.OnSuccess es = none_of es
met_is When.Manual es = none_of es
met_is When.OnFailure es = sym (any_is is_fail es)
met_is When.Always es = refl

idle_step : (o a c d : Bool) (x : Status) → a ≡ not o → c ≡ d
    → cond o (cond c x Status.Skipped) Status.Created ≡ cond a Status.Created (cond d x Status.Skipped)
idle_step true a c d x e f = ap (λ (t : Bool). cond t x Status.Skipped) f ∙ ap (λ (t : Bool). cond t Status.Created (cond d x Status.Skipped)) (sym e)
idle_step false a c d x e f = ap (λ (t : Bool). cond t Status.Created (cond d x Status.Skipped)) (sym e)

idle_is : (part : Part) (facts : Facts) (es : List Effect) → idle_by_counts part facts (count_by is_open es) (count_by is_fail es) (count_by is_bar es) ≡ idle_status part facts es
idle_is part facts es =
    idle_step (count_by is_open es == 0) (list_any is_open es) (is_met_by_counts part.«when» (count_by is_fail es) (count_by is_bar es)) (is_met part.«when» es)
    (cond (waits_for_play part.«when» facts) Status.Manual Status.Pending) (any_is is_open es) (met_is part.«when» es)

-- the numbers that are counted are those of the statuses
pub numbered_of : (g : JobGraph) (facts : List Facts) (rows : List Row) → AreCounted g facts rows → AreNumbered g facts rows
numbered_of g facts rows c j l =
    let f : ℕ → Effect = λ (p : ℕ). effect (part_at g p) (facts_at facts p) (part_at g j).gives_needs (row_at rows p).status in
    let o : (row_at rows j).opens ≡ count_by is_open (map f (predecessors_of g j)) = (c j l).opens ∙ counted is_open f (predecessors_of g j) in
    let b : (row_at rows j).failed ≡ count_by is_fail (map f (predecessors_of g j)) = (c j l).failed ∙ counted is_fail f (predecessors_of g j) in
    let w : (row_at rows j).barred ≡ count_by is_bar (map f (predecessors_of g j)) = (c j l).barred ∙ counted is_bar f (predecessors_of g j) in
    λ i. record { status = (row_at rows j).status; opens = o i; failed = b i; barred = w i }

-- rows as the code keeps them are those of the one assignment
pub assignment_of : (g : JobGraph) (facts : List Facts) (rows : List Row) → AreCountedRows g facts rows → AreRows g facts rows
assignment_of g facts rows r = record {
  is = λ j l.
      let f : ℕ → Effect = λ (p : ℕ). effect (part_at g p) (facts_at facts p) (part_at g j).gives_needs (row_at rows p).status in
      let o : (row_at rows j).opens ≡ count_by is_open (map f (predecessors_of g j)) = (r.counted j l).opens ∙ counted is_open f (predecessors_of g j) in
      let b : (row_at rows j).failed ≡ count_by is_fail (map f (predecessors_of g j)) = (r.counted j l).failed ∙ counted is_fail f (predecessors_of g j) in
      let w : (row_at rows j).barred ≡ count_by is_bar (map f (predecessors_of g j)) = (r.counted j l).barred ∙ counted is_bar f (predecessors_of g j) in
      let moved : status_of_row (part_at g j) (facts_at facts j) (row_at rows j) ≡ status_by (standing (part_at g j) (facts_at facts j)) (idle_by_counts (part_at g j) (facts_at facts j) (count_by is_open (map f (predecessors_of g j))) (count_by is_fail (map f (predecessors_of g j))) (count_by is_bar (map f (predecessors_of g j))))
      = λ i. status_by (standing (part_at g j) (facts_at facts j)) (idle_by_counts (part_at g j) (facts_at facts j) (o i) (b i) (w i)) in
      r.settled j l ∙ (moved ∙ ap (λ (s : Status). status_by (standing (part_at g j) (facts_at facts j)) s) (idle_is (part_at g j) (facts_at facts j) (map f (predecessors_of g j))));
  each = numbered_of g facts rows r.counted;
}

pred_low : (g : JobGraph) → IsJobGraph g → (j x : ℕ) → j < length g.parts → 0 < times x (predecessors_of g j) → x < length g.parts
pred_low g net j x l m =
    let r : (k : ℕ) × (k < length (predecessors_of g j)) × (number_at (predecessors_of g j) k ≡ x) = times_at x (predecessors_of g j) m in
    let b : number_at (predecessors_of g j) r.0 < length g.parts = net.pred_inside j r.0 l r.1 in
    let q : number_at (predecessors_of g j) r.0 ≡ x = r.2 in
    omega arith

number_of : (g : JobGraph) → IsJobGraph g → (facts : List Facts) (rows : List Row) (a : ℕ → Status) → HaveAssignment g facts rows a → (p : Effect → Bool) (j : ℕ) → j < length g.parts
    → count_by p (effects_of g facts a j) ≡ tally (λ x. p (effect_at g facts rows (part_at g j).gives_needs x)) (predecessors_of g j)
number_of g net facts rows a h p j l =
    sym (counted p (λ (x : ℕ). effect (part_at g x) (facts_at facts x) (part_at g j).gives_needs (a x)) (predecessors_of g j))
    ∙ tally_members _ _ (predecessors_of g j) (λ x m.
    ap (λ (s : Status). p (effect (part_at g x) (facts_at facts x) (part_at g j).gives_needs s)) (sym (ap (λ (r : Row). r.status) (h.each x (pred_low g net j x l m)))))

-- the rows of any assignment are as the code keeps them
counted_of_any : (g : JobGraph) → IsJobGraph g → (facts : List Facts) (rows : List Row) (a : ℕ → Status) → HaveAssignment g facts rows a → AreCountedRows g facts rows
counted_of_any g net facts rows a h = record {
  counted = λ j l. record {
    opens = ap (λ (r : Row). r.opens) (h.each j l) ∙ number_of g net facts rows a h is_open j l;
    failed = ap (λ (r : Row). r.failed) (h.each j l) ∙ number_of g net facts rows a h is_fail j l;
    barred = ap (λ (r : Row). r.barred) (h.each j l) ∙ number_of g net facts rows a h is_bar j l;
  };
  settled = λ j l.
      ap (λ (r : Row). r.status) (h.each j l)
      ∙ (h.is j l
      ∙ (sym (ap (λ (s : Status). status_by (standing (part_at g j) (facts_at facts j)) s) (idle_is (part_at g j) (facts_at facts j) (effects_of g facts a j)))
      ∙ sym (ap (λ (r : Row). status_of_row (part_at g j) (facts_at facts j) r) (h.each j l))));
}

pub rows_of : (g : JobGraph) → IsJobGraph g → (facts : List Facts) (rows : List Row) (a : ℕ → Status) → HaveAssignment g facts rows a → AreRows g facts rows
rows_of g net facts rows a h = assignment_of g facts rows (counted_of_any g net facts rows a h)

-- and so are right rows
pub counted_by : (g : JobGraph) (facts : List Facts) (rows : List Row) → AreNumbered g facts rows → AreCounted g facts rows
counted_by g facts rows n j l = record {
  opens = ap (λ (r : Row). r.opens) (n j l) ∙ sym (counted is_open (λ (x : ℕ). effect_at g facts rows (part_at g j).gives_needs x) (predecessors_of g j));
  failed = ap (λ (r : Row). r.failed) (n j l) ∙ sym (counted is_fail (λ (x : ℕ). effect_at g facts rows (part_at g j).gives_needs x) (predecessors_of g j));
  barred = ap (λ (r : Row). r.barred) (n j l) ∙ sym (counted is_bar (λ (x : ℕ). effect_at g facts rows (part_at g j).gives_needs x) (predecessors_of g j));
}

pub counted_of : (g : JobGraph) (facts : List Facts) (rows : List Row) → AreRows g facts rows → AreCountedRows g facts rows
counted_of g facts rows h = record {
  counted = counted_by g facts rows h.each;
  settled = λ j l.
      h.is j l
      ∙ (sym (ap (λ (s : Status). status_by (standing (part_at g j) (facts_at facts j)) s) (idle_is (part_at g j) (facts_at facts j) (effects_of g facts (statuses rows) j)))
      ∙ sym (ap (λ (r : Row). status_of_row (part_at g j) (facts_at facts j) r) (h.each j l)));
}

map_members : (f h : ℕ → Effect) (xs : List ℕ) → ((x : ℕ) → 0 < times x xs → f x ≡ h x) → map f xs ≡ map h xs
map_members f h [] e = refl
map_members f h (x ∷ xs) e = λ i. e x (times_here x xs) i ∷ map_members f h xs (λ y l. e y (let m : times y xs ≤ times y (x ∷ xs) = times_more y x xs in omega arith)) i

along_order : (g : JobGraph) (facts : List Facts) (a b : ℕ → Status) → IsAssignment g facts a → IsAssignment g facts b → (js : List ℕ) (done : ℕ → Type 0) → ComeInOrder g done js
    → ((i : ℕ) → done i → a i ≡ b i) → (i : ℕ) → HasCome done js i → a i ≡ b i
along_order g facts a b p q [] done o h i k = h i k
along_order g facts a b p q (j ∷ js) done o h i k =
    let same : a j ≡ b j
    = p j o.2 ∙ (ap (λ (es : List Effect). status_of_effects (part_at g j) (facts_at facts j) es)
    (map_members _ _ (predecessors_of g j) (λ x l. ap (λ (s : Status). effect (part_at g x) (facts_at facts x) (part_at g j).gives_needs s) (h x (o.0 x l))))
    ∙ sym (q j o.2)) in
    along_order g facts a b p q js (λ m. (m ≡ j) ⊎ done m) o.3
    (λ m d. ⊎_elim (λ (e : m ≡ j). ap a e ∙ (same ∙ ap b (sym e))) (λ (e : done m). h m e) d) i k

pub one_assignment : (g : JobGraph) → IsJobGraph g → (facts : List Facts) (a b : ℕ → Status) → IsAssignment g facts a → IsAssignment g facts b → (i : ℕ) → i < length g.parts → a i ≡ b i
one_assignment g net facts a b p q i l = along_order g facts a b p q g.order (λ _. ⊥) (in_order g net) (λ m d. absurd d) i (all_come g net i l)

-- rows of created jobs
created_at : (lists : List (List ℕ)) (p : ℕ) → (row_at (map first_row lists) p).status ≡ Status.Created
created_at [] p = refl
created_at (x ∷ xs) zero = refl
created_at (x ∷ xs) (suc p) = created_at xs p

tally_yes : (p : ℕ → Bool) (xs : List ℕ) → ((x : ℕ) → p x ≡ true) → tally p xs ≡ length xs
tally_yes p [] h = refl
tally_yes p (x ∷ xs) h = ap (λ (b : Bool). cond b (suc (tally p xs)) (tally p xs)) (h x) ∙ ap suc (tally_yes p xs h)

tally_no : (p : ℕ → Bool) (xs : List ℕ) → ((x : ℕ) → p x ≡ false) → tally p xs ≡ 0
tally_no p [] h = refl
tally_no p (x ∷ xs) h = ap (λ (b : Bool). cond b (suc (tally p xs)) (tally p xs)) (h x) ∙ tally_no p xs h

first_counted : (g : JobGraph) → IsJobGraph g → (facts : List Facts) → AreCounted g facts (map first_row g.predecessors)
first_counted g net facts i l =
    let long : length g.predecessors ≡ length g.parts = net.predecessors_long in
    let row : row_at (map first_row g.predecessors) i ≡ first_row (predecessors_of g i) = get_or-map first_row g.predecessors i [] no_row (omega arith) in
    let at : (f : Effect → Bool) (x : ℕ) → f (effect_at g facts (map first_row g.predecessors) (part_at g i).gives_needs x) ≡ f (effect (part_at g x) (facts_at facts x) (part_at g i).gives_needs Status.Created)
    = λ (f : Effect → Bool) (x : ℕ). ap (λ (s : Status). f (effect (part_at g x) (facts_at facts x) (part_at g i).gives_needs s)) (created_at g.predecessors x) in
    record {
      opens = ap (λ (r : Row). r.opens) row ∙ sym (tally_yes _ (predecessors_of g i) (λ x. at is_open x));
      failed = ap (λ (r : Row). r.failed) row ∙ sym (tally_no _ (predecessors_of g i) (λ x. at is_fail x));
      barred = ap (λ (r : Row). r.barred) row ∙ sym (tally_no _ (predecessors_of g i) (λ x. at is_bar x));
    }

pub numbered_first : (g : JobGraph) → IsJobGraph g → (facts : List Facts) (rows : List Row) → rows ≡ map first_row g.predecessors → AreNumbered g facts rows
numbered_first g net facts rows e = rw e (numbered_of g facts (map first_row g.predecessors) (first_counted g net facts))

pub rows_exist : (g : JobGraph) → IsJobGraph g → (facts : List Facts) → length facts ≡ length g.parts → (rows : List Row) × AreRows g facts rows
rows_exist g net facts l =
    let h : PassState = record { facts = facts; rows = map first_row g.predecessors; meter = 0 } in
    let after : PassState = passed g facts g.order h in
    let long : length (map first_row g.predecessors) ≡ length g.parts = length-map g.predecessors first_row ∙ net.predecessors_long in
    let same : after.facts ≡ facts = final_facts g net facts h after l long l refl (first_counted g net facts) in
    (after.rows, rw same at (assignment_of g after.facts after.rows (final_rows g net facts h after long l refl (first_counted g net facts))))

-- of the graph, the rows depend on parts and predecessors alone
rows_like : (h : JobGraph) (successors : List (List ℕ)) (order : List ℕ) (meter : ℕ) (facts : List Facts) (rows : List Row)
    → AreRows (record { parts = h.parts; predecessors = h.predecessors; successors = successors; order = order; meter = meter }) facts rows → AreRows h facts rows
rows_like h successors order meter facts rows r = record { is = λ j l. r.is j l; each = λ j l. r.each j l }

pub same_graph : (g h : JobGraph) → h.parts ≡ g.parts → h.predecessors ≡ g.predecessors → (facts : List Facts) (rows : List Row) → AreRows g facts rows → AreRows h facts rows
same_graph g h p q facts rows r = rows_like h g.successors g.order g.meter facts rows (rw (p, q) r)

pub rows_moved : (g h : JobGraph) (fs gs : List Facts) (rows : List Row) → h ≡ record g { meter = h.meter } → fs ≡ gs → AreRows g fs rows → AreRows h gs rows
rows_moved g h fs gs rows e f r = rw (← f) (same_graph g h (ap (λ (x : JobGraph). x.parts) e) (ap (λ (x : JobGraph). x.predecessors) e) fs rows r)

pub net_back : (g h : JobGraph) → h ≡ record g { meter = h.meter } → g ≡ record h { meter = g.meter }
net_back g h e = sym (ap (λ (x : JobGraph). record x { meter = g.meter }) e)

pub status_worked : (g h : JobGraph) (facts fresh : List Facts) (rows : List Row) (j : ℕ) → h ≡ record g { meter = h.meter } → fresh ≡ facts → AreRows h facts rows → IsStatusOf g fresh j (row_at rows j).status
status_worked g h facts fresh rows j e f r =
    (statuses rows, (rows_moved h g facts fresh rows (net_back g h e) (sym f) r).is, refl)

pub pipeline_same : (ps qs : List Part) (fs gs : List Facts) (rs ss : List Row) → ps ≡ qs → fs ≡ gs → rs ≡ ss → pipeline_status ps fs (statuses rs) ≡ pipeline_status qs gs (statuses ss)
pipeline_same ps qs fs gs rs ss e f r = λ i. pipeline_status (e i) (f i) (statuses (r i))

pub both_ways : (g : JobGraph) → IsJobGraph g → (facts : List Facts) (rows : List Row) → AreRows g facts rows ↔ ((a : ℕ → Status) × HaveAssignment g facts rows a)
both_ways g net facts rows = ((λ h. (statuses rows, h)), λ h. rows_of g net facts rows h.0 h.1)

pub one_list : (g : JobGraph) → IsJobGraph g → (facts : List Facts) (r s : List Row) → AreRows g facts r → AreRows g facts s → (i : ℕ) → i < length g.parts → row_at r i ≡ row_at s i
one_list g net facts r s a b = one_counted g net facts r s (counted_of g facts r a) (counted_of g facts s b)

pub one_and_only : (g : JobGraph) → IsJobGraph g → (facts : List Facts) → length facts ≡ length g.parts
    → ((rows : List Row) × AreRows g facts rows) × ((a b : ℕ → Status) → IsAssignment g facts a → IsAssignment g facts b → (i : ℕ) → i < length g.parts → a i ≡ b i)
one_and_only g net facts l = (rows_exist g net facts l, λ a b p q i b2. one_assignment g net facts a b p q i b2)
