-- What an expression looks for, and lists of which each is among others.
use Rattle.std.proofs.Common.{◌≡◌, ◌++◌, false, [], refl, ap₂, ℕ, zero, suc, ◌+◌, ◌<◌, Bool, true, List, ◌∷◌, length, get_or, take, drop, filter, map, ap, sym, subst, ◌∙◌, ⊎_elim}
use Rattle.std.proofs.Common.{arith, if◌then◌else◌, ◌||◌, ◌&&◌, flat_map}
use Rattle.std.proofs.lemmas.Bool.{or_parts, or_cases, or_left, or_right, and_parts, true_from_ne_false}
use Rattle.std.specs.Str.{bytes_eq}
use Rattle.std.proofs.lemmas.Slice.Eq.{bytes_eq-Decides}
use Rattle.std.proofs.lemmas.List.{at_drop_more, take_more, map-append}
use Rattle.ci_expr.specs.declared.formula.Formula as formulas
use Rattle.ci_expr.specs.Prelude.{Joined', Group', Found, formula_view, patterns_in, looks_in, AreMeasured, Values, has_pattern, answered, AreAnswered, RefusesLooks, Look}
use Rattle.ci_expr.specs.Prelude.{same_flag, same_pattern, same_look, look_view, looks_view, is_among, AreAmong, with_one, with_each, distinct, RefusesPattern, ExprFault}
use Rattle.ci_expr.specs.Built.{Pattern}
use Rattle.ci_expr.specs.declared.answers.Answers.{Answers}
use Rattle.ci_expr.specs.declared.looks.Look as looks

-- ---- what it builds and looks for
-- without a pattern there is none to build or to look for
pub no-patterns : (f : formulas.Formula) → has_pattern (formula_view f) ≡ false → (patterns_in f ≡ []) × ((vs : Values) → looks_in vs f ≡ [])
no-patterns (Joined' j p a q b) h =
    let both = or_parts (has_pattern (formula_view a)) (has_pattern (formula_view b)) h in
    let first = no-patterns a both.0 in
    let second = no-patterns b both.1 in
    (ap₂ (λ xs ys. xs ++ ys) first.0 second.0, λ vs. ap₂ (λ xs ys. xs ++ ys) (first.1 vs) (second.1 vs))
no-patterns (Group' p a) h = no-patterns a h
no-patterns (Found negated name pattern) h = absurd cc
no-patterns _ h = (refl, λ vs. refl)

pub measured : (f : formulas.Formula) → AreMeasured f
measured (Joined' j p a q b) = (measured a, measured b)
measured (Group' p a) = measured a
measured (Found negated name pattern) = pattern.value.measured
measured _ = tt

-- ---- looks that are the same

flag-itself : (b : Bool) → same_flag b b ≡ true
flag-itself true = refl
flag-itself false = refl

pub pattern-itself : (p : Pattern) → same_pattern p p ≡ true
pattern-itself p = ap (λ b. b && bytes_eq p.source p.source) (flag-itself p.insensitive) ∙ (bytes_eq-Decides p.source p.source).1 refl

pub look-itself : (l : Look) → same_look l l ≡ true
look-itself l = ap (λ b. b && bytes_eq l.text l.text) (pattern-itself l.pattern) ∙ (bytes_eq-Decides l.text l.text).1 refl

-- what two patterns that are the same have in common
pub same-written : (a b : Bool) (s t : List ℕ) → same_flag a b && bytes_eq s t ≡ true → (b ≡ a) × (t ≡ s)
same-written true true s t e = (refl, sym ((bytes_eq-Decides s t).0 e))
same-written false false s t e = (refl, sym ((bytes_eq-Decides s t).0 e))
same-written _ _ s t e = absurd cc

look-alike : (a b y : Look) → same_look a b ≡ true → same_look a y ≡ same_look b y
look-alike a b y h =
    let w = and_parts (same_pattern a.pattern b.pattern) (bytes_eq a.text b.text) h in
    let p = same-written a.pattern.insensitive b.pattern.insensitive a.pattern.source b.pattern.source w.0 in
    let t : a.text ≡ b.text = (bytes_eq-Decides a.text b.text).0 w.1 in
    rw (sym p.0, sym p.1, t) refl

module _ {A : Type 0} (same : A → A → Bool) where
  -- ---- parts of a list

  pub among-left : (xs ys zs : List A) → AreAmong same (xs ++ ys) zs → AreAmong same xs zs
  among-left [] ys zs h = tt
  among-left (x ∷ xs) ys zs h = (h.0, among-left xs ys zs h.1)

  pub among-right : (xs ys zs : List A) → AreAmong same (xs ++ ys) zs → AreAmong same ys zs
  among-right [] ys zs h = h
  among-right (x ∷ xs) ys zs h = among-right xs ys zs h.1

  pub among-both : (xs ys zs : List A) → AreAmong same xs zs → AreAmong same ys zs → AreAmong same (xs ++ ys) zs
  among-both [] ys zs h k = k
  among-both (x ∷ xs) ys zs h k = (h.0, among-both xs ys zs h.1 k)

  pub among-part : {B : Type 0} (part : B → List A) (bs : List B) (i : ℕ) (b : B) (zs : List A) → i < length bs → b ≡ get_or bs i b
      → AreAmong same (flat_map part bs) zs → AreAmong same (part b) zs
  among-part part [] i b zs lt is h = absurd (omega arith)
  among-part part (c ∷ cs) zero b zs lt is h = subst (λ d. AreAmong same (part d) zs) (sym is) (among-left (part c) (flat_map part cs) zs h)
  among-part part (c ∷ cs) (suc i) b zs lt is h = among-part part cs i b zs (omega arith) is (among-right (part c) (flat_map part cs) zs h)

  -- ---- longer lists

  pub one-of-more : (x : A) (ys more : List A) → is_among same x ys ≡ true → is_among same x (ys ++ more) ≡ true
  one-of-more x [] more h = absurd cc
  one-of-more x (y ∷ ys) more h = ⊎_elim
      (or_left (same x y) (is_among same x (ys ++ more)))
      (λ (e : is_among same x ys ≡ true). or_right (same x y) (is_among same x (ys ++ more)) (one-of-more x ys more e))
      (or_cases (same x y) (is_among same x ys) h)

  pub one-of-rest : (x : A) (ys more : List A) → is_among same x more ≡ true → is_among same x (ys ++ more) ≡ true
  one-of-rest x [] more h = h
  one-of-rest x (y ∷ ys) more h = or_right (same x y) (is_among same x (ys ++ more)) (one-of-rest x ys more h)

  pub among-more : (xs ys more : List A) → AreAmong same xs ys → AreAmong same xs (ys ++ more)
  among-more [] ys more h = tt
  among-more (x ∷ xs) ys more h = (one-of-more x ys more h.0, among-more xs ys more h.1)

  kept-or-not : (x y : A) (ys : List A) (kept : Bool) → is_among same x ys ≡ true → is_among same x (if kept then y ∷ ys else ys) ≡ true
  kept-or-not x y ys true h = or_right (same x y) (is_among same x ys) h
  kept-or-not x y ys false h = h

  -- an element for which the test holds is among those for which it does
  pub among-filtered : {B : Type 0} (view : B → A) (test : A → Bool) (bs : List B) (i : ℕ) (b : B) → i < length bs → b ≡ get_or bs i b → test (view b) ≡ true
      → same (view b) (view b) ≡ true
      → is_among same (view b) (filter test (map view bs)) ≡ true
  among-filtered view test [] i b lt is holds itself = absurd (omega arith)
  among-filtered view test (c ∷ cs) zero b lt is holds itself =
      let rest = filter test (map view cs) in
      ap (λ t. is_among same (view b) (if t then view c ∷ rest else rest)) (subst (λ d. test (view d) ≡ true) is holds)
      ∙ ap (λ t. t || is_among same (view b) rest) (subst (λ d. same (view b) (view d) ≡ true) is itself)
  among-filtered view test (c ∷ cs) (suc i) b lt is holds itself =
      kept-or-not (view b) (view c) (filter test (map view cs)) (test (view c)) (among-filtered view test cs i b (omega arith) is holds itself)

  -- one further
  pub among-next : {B : Type 0} (view : B → A) (bs : List B) (i : ℕ) (b : B) (zs : List A) → i < length bs → b ≡ get_or bs i b → is_among same (view b) zs ≡ true
      → AreAmong same (map view (take i bs)) zs → AreAmong same (map view (take (i + 1) bs)) zs
  among-next view bs i b zs lt is one h =
      subst (λ xs. AreAmong same (map view xs) zs) (sym (take_more bs i b lt))
      (subst (λ xs. AreAmong same xs zs) (sym (map-append view (take i bs) (get_or bs i b ∷ [])))
      (among-both (map view (take i bs)) (view (get_or bs i b) ∷ []) zs h (subst (λ d. is_among same (view d) zs ≡ true) is one, tt)))

-- ---- each of a list once

module _ {A : Type 0} (same : A → A → Bool) (alike : (a b y : A) → same a b ≡ true → same a y ≡ same b y) where
  among-alike : (a b : A) (ys : List A) → same a b ≡ true → is_among same b ys ≡ true → is_among same a ys ≡ true
  among-alike a b [] s h = absurd cc
  among-alike a b (y ∷ ys) s h = ⊎_elim
      (λ (e : same b y ≡ true). or_left (same a y) (is_among same a ys) (alike a b y s ∙ e))
      (λ (e : is_among same b ys ≡ true). or_right (same a y) (is_among same a ys) (among-alike a b ys s e))
      (or_cases (same b y) (is_among same b ys) h)

  among-among : (x : A) (ys zs : List A) → AreAmong same ys zs → is_among same x ys ≡ true → is_among same x zs ≡ true
  among-among x [] zs h one = absurd cc
  among-among x (y ∷ ys) zs h one = ⊎_elim
      (λ (e : same x y ≡ true). among-alike x y zs e h.0)
      (λ (e : is_among same x ys ≡ true). among-among x ys zs h.1 e)
      (or_cases (same x y) (is_among same x ys) one)

  with-one : (seen : List A) (x : A) (zs : List A) (b : Bool) → is_among same x seen ≡ b → AreAmong same (if b then seen else seen ++ x ∷ []) zs
      → AreAmong same seen zs × (is_among same x zs ≡ true)
  with-one seen x zs true e h = (h, among-among x seen zs h e)
  with-one seen x zs false e h = (among-left same seen (x ∷ []) zs h, (among-right same seen (x ∷ []) zs h).0)

  among-each : (seen xs zs : List A) → AreAmong same (with_each same seen xs) zs → AreAmong same seen zs × AreAmong same xs zs
  among-each seen [] zs h = (h, tt)
  among-each seen (x ∷ xs) zs h =
      let rest = among-each (with_one same seen x) xs zs h in
      let first = with-one seen x zs (is_among same x seen) refl rest.0 in
      (first.0, (first.1, rest.1))

  -- where each that is kept is among others, each is
  pub among-distinct : (xs zs : List A) → AreAmong same (with_each same [] xs) zs → AreAmong same xs zs
  among-distinct xs zs h = (among-each [] xs zs h).1

-- ---- looks that were made

-- each of a list is, where each that is kept once is
pub answered_each : (a : Answers) (ls : List Look) → AreAnswered a (distinct same_look ls) → AreAnswered a ls
answered_each a ls h = among-distinct same_look look-alike ls (answered a) h

-- those that are to be made, one further
pub made_next : (is_made : Look → Bool) (ls : List looks.Look) (i : ℕ) (l : looks.Look) → i < length ls → l ≡ get_or ls i l
    → filter is_made (looks_view (drop i ls))
    ≡ if is_made (look_view l) then look_view l ∷ filter is_made (looks_view (drop (i + 1) ls)) else filter is_made (looks_view (drop (i + 1) ls))
made_next is_made ls i l lt is =
    at_drop_more (λ xs. filter is_made (looks_view xs)) ls i l lt
    ∙ ap (λ y. filter is_made (looks_view (y ∷ drop (i + 1) ls))) (sym is)

-- where there is something to look for, there is a pattern
pub refused_looks : (vs : Values) (f : formulas.Formula) (e : ExprFault) (ls : List Look) → ls ≡ distinct same_look (looks_in vs f) → RefusesLooks e ls
    → RefusesPattern e (formula_view f)
refused_looks vs f ExprFault.Memory ls gathered h = tt
refused_looks vs f (ExprFault.Fault x) ls gathered h =
    (h.0, true_from_ne_false (has_pattern (formula_view f)) (λ none. h.1 (gathered ∙ ap (distinct same_look) ((no-patterns f none).1 vs))))

-- what was put into an empty list is each once
pub gathered_looks : (now items start : List looks.Look) (ls : List Look) → now ≡ items → looks_view items ≡ with_each same_look (looks_view start) ls → start ≡ []
    → looks_view now ≡ distinct same_look ls
gathered_looks now items start ls e put none = rw e (rw none at put)
