-- The queue: what taking the next position keeps, and what its end gives.
use Rattle.std.proofs.Common.{◌≡◌, ℕ, zero, suc, ◌+◌, ◌-◌, ◌<◌, ◌≤◌, ◌==◌, Bool, true, false, cond, not, ◌||◌, List, [], ◌∷◌, ◌++◌, length, take, map, refl, sym, ap, ◌∙◌, arith, eqb-true, ⊎_elim, slice_set, filter, append_assoc, length-append}
use Rattle.std.proofs.Math.ListN.{length-set}
use Rattle.std.proofs.lemmas.Bool.{cond_both, eqb-false, eq-eqb, ne_eqb, not-true, not-false}
use Rattle.std.proofs.Math.Bool.{or-false, or_assoc}
use Rattle.std.proofs.lemmas.List.{get_or-set_same, get_or-set_other, get_or-map, length-map, get_or_append_left, take-append-le, take_more, take_all, append-nil, ext_get_or}
use Rattle.ci_graph.specs.Lists.{list_at, tally, times, is_among, number_at, IsOrder, once, IsStuck}
use Rattle.ci_graph.specs.Pairs.{has_pair}
use Rattle.ci_graph.proofs.Steps.{Neighbours, AreNeighbours, Progress, sources, released_one, released, IsReady}
use Rattle.ci_graph.proofs.Counts.{times_push, times_here, times_more, times_same, times_cases, at_times, among_no, yes_among, no_among, once_few, once_yes, once_no, tally_none, tally_some, times_after, filter_members, times_below, below_length, below_few, below_full, below_missing}

-- while the successors ss of the position that was taken are still to be released
record IsReleasing (n : ℕ) (wanted : ℕ → ℕ) (base : List ℕ) (ss : List ℕ) (t : Progress) : Type 0 where
  pub long : length t.left ≡ n
  pub inside : (x : ℕ) → 0 < times x t.queue → x < n
  pub numbers : (i : ℕ) → i < n → number_at t.left i ≡ wanted i + times i ss
  pub queued : (i : ℕ) → i < n → times i t.queue ≡ once (number_at t.left i == 0)
  pub grown : (more : List ℕ) × (t.queue ≡ base ++ more)

releasing_one : (n : ℕ) (wanted : ℕ → ℕ) (base : List ℕ) (s : ℕ) (ss : List ℕ) (t : Progress) → s < n → IsReleasing n wanted base (s ∷ ss) t → IsReleasing n wanted base ss (released_one s t)
releasing_one n wanted base s ss t ls h =
    let v : ℕ = number_at t.left s - 1 in
    let lt : length t.left ≡ n = h.long in
    let more_than : 0 < number_at t.left s = let e : number_at t.left s ≡ wanted s + times s (s ∷ ss) = h.numbers s ls in let b : 0 < times s (s ∷ ss) = times_here s ss in omega arith in
    let absent : times s t.queue ≡ 0 = h.queued s ls ∙ ap once (ne_eqb (number_at t.left s) 0 (λ (e : number_at t.left s ≡ 0). omega arith)) in
    let set_here : number_at (slice_set t.left s v) s ≡ v = get_or-set_same t.left s v 0 (omega arith) in
    let set_other : (i : ℕ) → (i ≡ s → ⊥) → number_at (slice_set t.left s v) i ≡ number_at t.left i = λ (i : ℕ) (d : i ≡ s → ⊥). get_or-set_other t.left s i v 0 d in
    record {
      long = length-set t.left s v ∙ h.long;
      inside = cond_both (v == 0) (t.queue ++ s ∷ []) t.queue (λ (q : List ℕ). (x : ℕ) → 0 < times x q → x < n)
          (λ e x l. cond_both (s == x) 0 0 (λ (_ : ℕ). x < n)
          (λ c. let q : s ≡ x = eqb-true s x c in omega arith)
          (λ c. h.inside x (let p : times x (t.queue ++ s ∷ []) ≡ times x t.queue + once (s == x) = times_push x s t.queue in let z : once (s == x) ≡ 0 = ap once c in omega arith)))
          (λ e x l. h.inside x l);
      numbers = λ i l. cond_both (s == i) (suc (times i ss)) (times i ss) (λ (m : ℕ). number_at t.left i ≡ wanted i + m → number_at (slice_set t.left s v) i ≡ wanted i + times i ss)
          (λ c e. let q : s ≡ i = eqb-true s i c in
          let p : number_at (slice_set t.left s v) i ≡ v = ap (λ (k : ℕ). number_at (slice_set t.left s v) k) (sym q) ∙ set_here in
          let r : number_at t.left s ≡ number_at t.left i = ap (λ (k : ℕ). number_at t.left k) q in
          omega arith)
          (λ c e. set_other i (λ (q : i ≡ s). eqb-false s i c (sym q)) ∙ e)
          (h.numbers i l);
      queued = λ i l. cond_both (s == i) 0 0 (λ (_ : ℕ). times i (released_one s t).queue ≡ once (number_at (slice_set t.left s v) i == 0))
          (λ c. let q : s ≡ i = eqb-true s i c in
          ap (λ (k : ℕ). times k (released_one s t).queue) (sym q)
          ∙ (cond_both (v == 0) (t.queue ++ s ∷ []) t.queue (λ (qs : List ℕ). times s qs ≡ once (v == 0))
          (λ e. times_push s s t.queue ∙ (let a : once (s == s) ≡ 1 = ap once (eq-eqb s s refl) in let b : once (v == 0) ≡ 1 = ap once e in omega arith))
          (λ e. absent ∙ sym (ap once e))
          ∙ ap (λ (k : ℕ). once (k == 0)) (sym (ap (λ (k : ℕ). number_at (slice_set t.left s v) k) (sym q) ∙ set_here))))
          (λ c. let d : times i (released_one s t).queue ≡ times i t.queue
          = cond_both (v == 0) (t.queue ++ s ∷ []) t.queue (λ (qs : List ℕ). times i qs ≡ times i t.queue)
          (λ e. times_push i s t.queue ∙ (let z : once (s == i) ≡ 0 = ap once c in omega arith))
          (λ e. refl) in
          d ∙ (h.queued i l ∙ ap (λ (k : ℕ). once (k == 0)) (sym (set_other i (λ (q : i ≡ s). eqb-false s i c (sym q))))));
      grown = cond_both (v == 0) (t.queue ++ s ∷ []) t.queue (λ (qs : List ℕ). (more : List ℕ) × (qs ≡ base ++ more))
          (λ e. (h.grown.0 ++ s ∷ [], ap (λ (qs : List ℕ). qs ++ s ∷ []) h.grown.1 ∙ append_assoc base h.grown.0 (s ∷ [])))
          (λ e. h.grown);
    }

releasing_all : (n : ℕ) (wanted : ℕ → ℕ) (base : List ℕ) (ss : List ℕ) (t : Progress) → ((x : ℕ) → 0 < times x ss → x < n) → IsReleasing n wanted base ss t → IsReleasing n wanted base [] (released ss t)
releasing_all n wanted base [] t b h = h
releasing_all n wanted base (s ∷ ss) t b h =
    releasing_all n wanted base ss (released_one s t) (λ x l. b x (let m : times x ss ≤ times x (s ∷ ss) = times_more x s ss in omega arith))
    (releasing_one n wanted base s ss t (b s (times_here s ss)) h)

-- what releasing leaves of the numbers, and whom it puts into the queue
released_long : (ss : List ℕ) (t : Progress) → length (released ss t).left ≡ length t.left
released_long [] t = refl
released_long (s ∷ ss) t = released_long ss (released_one s t) ∙ length-set t.left s (number_at t.left s - 1)

released_left : (ss : List ℕ) (t : Progress) → ((k : ℕ) → k < length ss → number_at ss k < length t.left) → (i : ℕ) → number_at (released ss t).left i ≡ number_at t.left i - times i ss
released_left [] t inside i = omega arith
released_left (s ∷ ss) t inside i =
    let v : ℕ = number_at t.left s - 1 in
    let long : length (slice_set t.left s v) ≡ length t.left = length-set t.left s v in
    let rest : number_at (released ss (released_one s t)).left i ≡ number_at (slice_set t.left s v) i - times i ss
    = released_left ss (released_one s t) (λ k l. let b : number_at ss k < length t.left = inside (suc k) (omega arith) in omega arith) i in
    cond_both (s == i) (suc (times i ss)) (times i ss) (λ (m : ℕ). number_at (released ss (released_one s t)).left i ≡ number_at t.left i - m)
    (λ c. let q : s ≡ i = eqb-true s i c in
    let here : number_at (slice_set t.left s v) i ≡ v = ap (λ (k : ℕ). number_at (slice_set t.left s v) k) (sym q) ∙ get_or-set_same t.left s v 0 (inside 0 (omega arith)) in
    let same : number_at t.left s ≡ number_at t.left i = ap (λ (k : ℕ). number_at t.left k) q in
    omega arith)
    (λ c. let other : number_at (slice_set t.left s v) i ≡ number_at t.left i = get_or-set_other t.left s i v 0 (λ (q : i ≡ s). eqb-false s i c (sym q)) in omega arith)

-- whether a number goes down to none
abbrev empties : List ℕ → ℕ → Bool
empties left s = number_at left s - 1 == 0

released_queue : (ss : List ℕ) (t : Progress) → ((k : ℕ) → k < length ss → number_at ss k < length t.left) → ((i : ℕ) → times i ss ≤ 1) → (released ss t).queue ≡ t.queue ++ filter (empties t.left) ss
released_queue [] t inside few = sym (append-nil t.queue)
released_queue (s ∷ ss) t inside few =
    let v : ℕ = number_at t.left s - 1 in
    let long : length (slice_set t.left s v) ≡ length t.left = length-set t.left s v in
    let here : 0 < times s (s ∷ ss) = times_here s ss in
    let none : times s ss ≡ 0 = alone (few s) in
    let rest : (released ss (released_one s t)).queue ≡ (released_one s t).queue ++ filter (empties (slice_set t.left s v)) ss
    = released_queue ss (released_one s t) (λ k l. let b : number_at ss k < length t.left = inside (suc k) (omega arith) in omega arith)
    (λ i. let m : times i ss ≤ times i (s ∷ ss) = times_more i s ss in let f : times i (s ∷ ss) ≤ 1 = few i in omega arith) in
    let same : filter (empties (slice_set t.left s v)) ss ≡ filter (empties t.left) ss
    = filter_members _ _ ss (λ x m. ap (λ (k : ℕ). k - 1 == 0) (get_or-set_other t.left s x v 0 (λ (q : x ≡ s). let z : times x ss ≡ times s ss = ap (λ (k : ℕ). times k ss) q in omega arith))) in
    rest ∙ (ap (λ (ys : List ℕ). (released_one s t).queue ++ ys) same
    ∙ cond_both (v == 0) (t.queue ++ s ∷ []) t.queue (λ (qs : List ℕ). qs ++ filter (empties t.left) ss ≡ t.queue ++ cond (v == 0) (s ∷ filter (empties t.left) ss) (filter (empties t.left) ss))
    (λ e. append_assoc t.queue (s ∷ []) (filter (empties t.left) ss) ∙ ap (λ (b : Bool). t.queue ++ cond b (s ∷ filter (empties t.left) ss) (filter (empties t.left) ss)) (sym e))
    (λ e. ap (λ (b : Bool). t.queue ++ cond b (s ∷ filter (empties t.left) ss) (filter (empties t.left) ss)) (sym e)))
  where
    alone : times s (s ∷ ss) ≤ 1 → times s ss ≡ 0
    alone = cond_both (s == s) (suc (times s ss)) (times s ss) (λ (m : ℕ). m ≤ 1 → times s ss ≡ 0) (λ c l. omega arith) (λ c l. absurd (eqb-false s s c refl))

-- both ways, where no successor is named twice
pub released_gives : (ss : List ℕ) (t after : Progress) → ((k : ℕ) → k < length ss → number_at ss k < length t.left) → ((i : ℕ) → times i ss ≤ 1) → after ≡ released ss t
    → ((i : ℕ) → number_at after.left i ≡ number_at t.left i - times i ss) × (after.queue ≡ t.queue ++ filter (λ s. number_at t.left s - 1 == 0) ss)
released_gives ss t after inside few e = ((λ i. ap (λ (p : Progress). number_at p.left i) e ∙ released_left ss t inside i), ap (λ (p : Progress). p.queue) e ∙ released_queue ss t inside few)

pub released_is : (ss : List ℕ) (t after : Progress) → length after.left ≡ length t.left → ((k : ℕ) → k < length ss → number_at ss k < length t.left) → ((i : ℕ) → times i ss ≤ 1)
    → ((i : ℕ) → number_at after.left i ≡ number_at t.left i - times i ss) → after.queue ≡ t.queue ++ filter (λ s. number_at t.left s - 1 == 0) ss → after ≡ released ss t
released_is ss t after long inside few left queue =
    let same_left : after.left ≡ (released ss t).left = ext_get_or 0 after.left (released ss t).left (long ∙ sym (released_long ss t)) (λ i _. left i ∙ sym (released_left ss t inside i)) in
    let same_queue : after.queue ≡ (released ss t).queue = queue ∙ sym (released_queue ss t inside few) in
    λ i. record { queue = same_queue i; left = same_left i }

-- each successor stands once
pub succ_few : (n : ℕ) (pairs : List (ℕ × ℕ)) (s : Neighbours) → AreNeighbours n pairs s → (j i : ℕ) → j < n → times i (list_at s.successors j) ≤ 1
succ_few n pairs s h j i l = rw (h.succ j i l) (once_few (has_pair pairs j i))

one_less : (b c : Bool) (x y z m : ℕ) → (c ≡ true → b ≡ false) → x ≡ y + m → cond (not b) (suc x) x ≡ cond (not (b || c)) (suc y) y + cond c (suc m) m
one_less true true x y z m h e = absurd (let f : true ≡ false = h refl in cc)
one_less true false x y z m h e = omega arith
one_less false true x y z m h e = omega arith
one_less false false x y z m h e = omega arith

among_or : (xs : List ℕ) (j x : ℕ) → is_among (xs ++ j ∷ []) x ≡ (is_among xs x || (j == x))
among_or [] j x = or-false (j == x)
among_or (y ∷ xs) j x = ap (λ (b : Bool). (y == x) || b) (among_or xs j x) ∙ sym (or_assoc (y == x) (is_among xs x) (j == x))

eq_sym : (a b : ℕ) → (a == b) ≡ (b == a)
eq_sym a b = cond_both (a == b) 0 0 (λ (_ : ℕ). (a == b) ≡ (b == a))
    (λ e. e ∙ sym (eq-eqb b a (sym (eqb-true a b e))))
    (λ e. e ∙ sym (ne_eqb b a (λ q. eqb-false a b e (sym q))))

-- taking j makes as many less as j stands there
taken_one : (taken : List ℕ) (j : ℕ) → times j taken ≡ 0 → (ps : List ℕ)
    → tally (λ p. not (is_among taken p)) ps ≡ tally (λ p. not (is_among (taken ++ j ∷ []) p)) ps + times j ps
taken_one taken j z [] = refl
taken_one taken j z (p ∷ ps) =
    one_less (is_among taken p) (p == j) _ (tally (λ x. not (is_among (taken ++ j ∷ []) x)) ps) 0 (times j ps)
    (λ e. ap (λ (x : ℕ). is_among taken x) (eqb-true p j e) ∙ among_no taken j z)
    (taken_one taken j z ps)
    ∙ ap (λ (b : Bool). cond (not b) (suc (tally (λ x. not (is_among (taken ++ j ∷ []) x)) ps)) (tally (λ x. not (is_among (taken ++ j ∷ []) x)) ps) + times j (p ∷ ps))
    (ap (λ (c : Bool). is_among taken p || c) (eq_sym p j) ∙ sym (among_or taken j p))

-- the k-th position isn't among the first k
new_at : (n : ℕ) (predecessors : List (List ℕ)) (k : ℕ) (t : Progress) → IsReady n predecessors k t → k < length t.queue → times (number_at t.queue k) (take k t.queue) ≡ 0
new_at n predecessors k t h l =
    let j : ℕ = number_at t.queue k in
    let lj : j < n = h.inside j (at_times t.queue k l) in
    let a : times j (take k t.queue) + 1 ≤ times j t.queue = times_after k t.queue l in
    let e : times j t.queue ≡ once (number_at t.left j == 0) = h.queued j lj in
    let f : once (number_at t.left j == 0) ≤ 1 = once_few (number_at t.left j == 0) in
    omega arith

-- the predecessors of the k-th position are among the first k
before_at : (n : ℕ) (predecessors : List (List ℕ)) (k : ℕ) (t : Progress) → IsReady n predecessors k t → k < length t.queue
    → (i : ℕ) → 0 < times i (list_at predecessors (number_at t.queue k)) → 0 < times i (take k t.queue)
before_at n predecessors k t h l i m =
    let j : ℕ = number_at t.queue k in
    let lj : j < n = h.inside j (at_times t.queue k l) in
    let a : 0 < times j t.queue = at_times t.queue k l in
    let e : times j t.queue ≡ once (number_at t.left j == 0) = h.queued j lj in
    let z : (number_at t.left j == 0) ≡ true = once_yes (number_at t.left j == 0) (omega arith) in
    let none : tally (λ p. not (is_among (take k t.queue) p)) (list_at predecessors j) ≡ 0 = sym (h.numbers j lj) ∙ eqb-true (number_at t.left j) 0 z in
    yes_among (take k t.queue) i (not-false (is_among (take k t.queue) i) (tally_none (λ p. not (is_among (take k t.queue) p)) (list_at predecessors j) none i m))

-- taking the k-th position
pub ready_more : (n : ℕ) (pairs : List (ℕ × ℕ)) (predecessors successors : List (List ℕ)) (k : ℕ) (t after : Progress) → AreNeighbours n pairs (record { predecessors = predecessors; successors = successors }) → IsReady n predecessors k t → k < length t.queue
    → after ≡ released (list_at successors (number_at t.queue k)) t → IsReady n predecessors (k + 1) after
ready_more n pairs predecessors successors k t after neighbours h l e = rw e (
    let j : ℕ = number_at t.queue k in
    let ss : List ℕ = list_at successors j in
    let lj : j < n = h.inside j (at_times t.queue k l) in
    let more : take (k + 1) t.queue ≡ take k t.queue ++ j ∷ [] = take_more t.queue k 0 l in
    let wanted : ℕ → ℕ = λ (i : ℕ). tally (λ p. not (is_among (take (k + 1) t.queue) p)) (list_at predecessors i) in
    let f : IsReleasing n wanted t.queue [] (released ss t) = releasing_all n wanted t.queue ss t
    (λ x m. (neighbours.within j x (once_yes (has_pair pairs j x) (let q : times x (list_at successors j) ≡ once (has_pair pairs j x) = neighbours.succ j x lj in omega arith))).1)
    (record {
      long = h.long;
      inside = h.inside;
      numbers = λ i li. h.numbers i li
          ∙ (taken_one (take k t.queue) j (new_at n predecessors k t h l) (list_at predecessors i)
          ∙ ap (λ (qs : List ℕ). tally (λ p. not (is_among qs p)) (list_at predecessors i) + times j (list_at predecessors i)) (sym more)
          ∙ ap (λ (m : ℕ). wanted i + m) (neighbours.pred j i li ∙ sym (neighbours.succ j i lj)));
      queued = h.queued;
      grown = ([], sym (append-nil t.queue));
    }) in
    let g : List ℕ = f.grown.0 in
    let grows : (released ss t).queue ≡ t.queue ++ g = f.grown.1 in
    let same : (m : ℕ) → m ≤ length t.queue → take m (released ss t).queue ≡ take m t.queue = λ (m : ℕ) (b : m ≤ length t.queue). ap (λ (qs : List ℕ). take m qs) grows ∙ take-append-le m t.queue g b in
    record {
      long = f.long;
      taken = let b : length (t.queue ++ g) ≡ length t.queue + length g = length-append t.queue g in let c : length (released ss t).queue ≡ length (t.queue ++ g) = ap length grows in omega arith;
      inside = f.inside;
      numbers = λ i li. f.numbers i li ∙ ((let z : wanted i + 0 ≡ wanted i = omega arith in z)
          ∙ ap (λ (qs : List ℕ). tally (λ p. not (is_among qs p)) (list_at predecessors i)) (sym (same (k + 1) (omega arith))));
      queued = f.queued;
      before = λ m i lm.
          let at : number_at (released ss t).queue m ≡ number_at t.queue m = ap (λ (qs : List ℕ). number_at qs m) grows ∙ get_or_append_left t.queue g 0 m (omega arith) in
          λ w. rw (same m (omega arith)) (cond_both (m == k) 0 0 (λ (_ : ℕ). 0 < times i (take m t.queue))
          (λ c. let q : m ≡ k = eqb-true m k c in
          rw q (before_at n predecessors k t h l i (rw (ap (λ (x : ℕ). number_at t.queue x) (sym q)) (rw (← at) w))))
          (λ c. let d : m ≡ k → ⊥ = eqb-false m k c in
          h.before m i (omega arith) (rw (← at) w)));
    })

sources_low : (xs : List ℕ) (k i : ℕ) → i < k → times i (sources k xs) ≡ 0
sources_low [] k i l = refl
sources_low (x ∷ xs) k i l =
    let r : times i (sources (k + 1) xs) ≡ 0 = sources_low xs (k + 1) i (omega arith) in
    cond_both (x == 0) (k ∷ sources (k + 1) xs) (sources (k + 1) xs) (λ (ys : List ℕ). times i ys ≡ 0)
    (λ e. times_same i k (sources (k + 1) xs) (λ (q : k ≡ i). omega arith) ∙ r) (λ e. r)

sources_times : (xs : List ℕ) (k i m : ℕ) → i ≡ k + m → m < length xs → times i (sources k xs) ≡ once (number_at xs m == 0)
sources_times [] k i m q l = absurd (omega arith)
sources_times (x ∷ xs) k i zero q l =
    let r : times i (sources (k + 1) xs) ≡ 0 = sources_low xs (k + 1) i (omega arith) in
    cond_both (x == 0) (k ∷ sources (k + 1) xs) (sources (k + 1) xs) (λ (ys : List ℕ). times i ys ≡ once (x == 0))
    (λ e. cond_both (k == i) (suc (times i (sources (k + 1) xs))) (times i (sources (k + 1) xs)) (λ (n : ℕ). n ≡ once (x == 0))
    (λ c. let o : once (x == 0) ≡ 1 = ap once e in omega arith)
    (λ c. absurd (eqb-false k i c (omega arith))))
    (λ e. r ∙ sym (ap once e))
sources_times (x ∷ xs) k i (suc m) q l =
    let r : times i (sources (k + 1) xs) ≡ once (number_at xs m == 0) = sources_times xs (k + 1) i m (omega arith) (omega arith) in
    cond_both (x == 0) (k ∷ sources (k + 1) xs) (sources (k + 1) xs) (λ (ys : List ℕ). times i ys ≡ once (number_at xs m == 0))
    (λ e. times_same i k (sources (k + 1) xs) (λ (p : k ≡ i). omega arith) ∙ r) (λ e. r)

sources_inside : (xs : List ℕ) (k i : ℕ) → 0 < times i (sources k xs) → i < k + length xs
sources_inside [] k i = λ l. absurd (omega arith)
sources_inside (x ∷ xs) k i =
    cond_both (x == 0) (k ∷ sources (k + 1) xs) (sources (k + 1) xs) (λ (ys : List ℕ). 0 < times i ys → i < k + suc (length xs))
    (λ e l. ⊎_elim (λ (q : k ≡ i). omega arith) (λ (m : 0 < times i (sources (k + 1) xs)). let r : i < (k + 1) + length xs = sources_inside xs (k + 1) i m in omega arith) (times_cases i k (sources (k + 1) xs) l))
    (λ e l. let r : i < (k + 1) + length xs = sources_inside xs (k + 1) i l in omega arith)

tally_all : (ps : List ℕ) → length ps ≡ tally (λ p. not (is_among [] p)) ps
tally_all [] = refl
tally_all (p ∷ ps) = ap suc (tally_all ps)

pub starts_each : (xs queue : List ℕ) → queue ≡ sources 0 xs → (i : ℕ) → i < length xs → times i queue ≡ once (number_at xs i == 0)
starts_each xs queue e i l = ap (λ (qs : List ℕ). times i qs) e ∙ sources_times xs 0 i i (omega arith) l

pub starts_inside : (xs queue : List ℕ) → queue ≡ sources 0 xs → (i : ℕ) → 0 < times i queue → i < length xs
starts_inside xs queue e i l = let r : i < 0 + length xs = sources_inside xs 0 i (rw (← e) l) in omega arith

pub ready_start : (n : ℕ) (predecessors : List (List ℕ)) (t : Progress) → length predecessors ≡ n → t.left ≡ map length predecessors
    → ((i : ℕ) → i < length t.left → times i t.queue ≡ once (number_at t.left i == 0)) → ((i : ℕ) → 0 < times i t.queue → i < length t.left) → IsReady n predecessors 0 t
ready_start n predecessors t e el each inside =
    let long : length t.left ≡ n = ap length el ∙ (length-map predecessors length ∙ e) in
    record {
      long = long;
      taken = omega arith;
      inside = λ x l. let r : x < length t.left = inside x l in omega arith;
      numbers = λ i l. ap (λ (xs : List ℕ). number_at xs i) el ∙ (get_or-map length predecessors i [] 0 (omega arith) ∙ tally_all (list_at predecessors i));
      queued = λ i l. each i (omega arith);
      before = λ m i l. absurd (omega arith);
    }

pub ready_first : (n : ℕ) (predecessors : List (List ℕ)) (t : Progress) → length predecessors ≡ n → t.left ≡ map length predecessors → t.queue ≡ sources 0 t.left → IsReady n predecessors 0 t
ready_first n predecessors t e el eq = ready_start n predecessors t e el (starts_each t.left t.queue eq) (starts_inside t.left t.queue eq)

-- all are taken
pub ready_end : (n : ℕ) (predecessors : List (List ℕ)) (k : ℕ) (t : Progress) → n ≤ k → IsReady n predecessors k t → IsOrder n predecessors t.queue
ready_end n predecessors k t le h =
    let few : (i : ℕ) → i < n → times i t.queue ≤ 1 = λ (i : ℕ) (l : i < n). rw (h.queued i l) (once_few (number_at t.left i == 0)) in
    let a : times_below n t.queue ≡ length t.queue = below_length n t.queue h.inside in
    let b : times_below n t.queue ≤ n = below_few n t.queue few in
    let c : k ≤ length t.queue = h.taken in
    record {
      long = omega arith;
      each_once = below_full n t.queue few (omega arith);
      inside = λ k l. h.inside (number_at t.queue k) (at_times t.queue k l);
      before = λ m i l. h.before m i (omega arith);
    }

-- none is left in the queue before all are taken
pub ready_stuck : (n : ℕ) (predecessors : List (List ℕ)) (k : ℕ) (t : Progress) → IsReady n predecessors k t → k < n → length t.queue ≤ k → IsStuck n predecessors t.queue
ready_stuck n predecessors k t h lk lq =
    let a : times_below n t.queue ≡ length t.queue = below_length n t.queue h.inside in
    let whole : take k t.queue ≡ t.queue = take_all k t.queue lq in
    record {
      some = below_missing n t.queue (omega arith);
      each = λ j lj z.
          let e : once (number_at t.left j == 0) ≡ 0 = sym (h.queued j lj) ∙ z in
          let d : number_at t.left j ≡ 0 → ⊥ = eqb-false (number_at t.left j) 0 (once_no (number_at t.left j == 0) e) in
          let m : number_at t.left j ≡ tally (λ p. not (is_among t.queue p)) (list_at predecessors j) = h.numbers j lj ∙ ap (λ (qs : List ℕ). tally (λ p. not (is_among qs p)) (list_at predecessors j)) whole in
          let r : (p : ℕ) × (0 < times p (list_at predecessors j)) × (not (is_among t.queue p) ≡ true) = tally_some (λ p. not (is_among t.queue p)) (list_at predecessors j) (omega arith) in
          (r.0, r.1, no_among t.queue r.0 (not-true (is_among t.queue r.0) r.2));
    }

-- the position to be taken is one of the n
pub taken_inside : (n : ℕ) (predecessors : List (List ℕ)) (k : ℕ) (t : Progress) → IsReady n predecessors k t → k < length t.queue → number_at t.queue k < n
taken_inside n predecessors k t h l = h.inside (number_at t.queue k) (at_times t.queue k l)

-- so are its successors
pub succ_inside : (n : ℕ) (pairs : List (ℕ × ℕ)) (s : Neighbours) → AreNeighbours n pairs s → (j k : ℕ) → j < n → k < length (list_at s.successors j) → number_at (list_at s.successors j) k < n
succ_inside n pairs s h j k lj l =
    let m : 0 < times (number_at (list_at s.successors j) k) (list_at s.successors j) = at_times (list_at s.successors j) k l in
    (h.within j (number_at (list_at s.successors j) k) (once_yes (has_pair pairs j (number_at (list_at s.successors j) k)) (rw (← h.succ j (number_at (list_at s.successors j) k) lj) m))).1
