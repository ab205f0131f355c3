-- What a path's segments ask for by a route: by the numbers in the route's slots where they fit its pattern, and nothing where they don't.
use Rattle.std.proofs.Common.{◌≡◌, ℕ, suc, List, [], ◌∷◌, length, Option, None, Some, Bool, true, false, cond, refl, sym, subst, ap, ◌∙◌, arith, nat_eq, ltb, ◌&&◌, ◌||◌, option_map, option_and_then, unwrap_or, codes}
use Rattle.std.specs.Cmp.Lexicographic.{pointwise}
use Rattle.std.proofs.lemmas.Bool.{and_parts}
use Rattle.std.proofs.lemmas.Bool.Decides.{nat_tests}
use Rattle.std.proofs.lemmas.Slice.Eq.{bytes_eq-Decides}
use Rattle.ci_machine.specs.Prelude.{id_in}
use Rattle.ci_http_messages.specs.Prelude.{Numbers, pieces_fit, text_at, Part, word, number, text, Takes, reads, is_text, loose, filled, number_at, number_named, numbers_in}
use Rattle.ci_http_messages.proofs.Walks.{cases, and-r}

rest-unfit : (b : ℕ) (s : List ℕ) (v : Bool) → (ltb 0 (length (b ∷ s)) && v) ≡ false → v ≡ false
rest-unfit b s v h =
    let lt : ltb 0 (suc (length s)) ≡ true = grind (arith, nat_tests) in
    sym (ap (λ u. u && v) lt) ∙ h

-- what doesn't fit the pattern isn't read
pub unfit : (ps : List Part) (op : Takes ps) (ss : List (List ℕ)) → pieces_fit (loose ps) ss ≡ false → reads ps op ss ≡ None
unfit [] op [] h = cc
unfit (word w ∷ ps) op (s ∷ ss) h = cases (pointwise nat_eq w s) (λ e. rw e (unfit ps op ss (rw e at h))) (λ e. rw e refl)
unfit (number x ∷ ps) op ((b ∷ s) ∷ ss) h =
    let f = rest-unfit b s _ h in
    elim (id_in (b ∷ s)) as (λ v. option_and_then (λ n. reads ps (op n) ss) v ≡ None) [
      | None ↦ refl
      | Some n ↦ unfit ps (op n) ss f
    ]
unfit (text x ∷ ps) op ((b ∷ s) ∷ ss) h = unfit ps (op (b ∷ s)) ss (rest-unfit b s _ h)
unfit _ op _ h = cc

-- what isn't read behind a segment isn't read with it
behind : (q : Part) (qs : List Part) (op : Takes (q ∷ qs)) (s : List ℕ) (ss : List (List ℕ)) → ((o : Takes qs) → reads qs o ss ≡ None) → reads (q ∷ qs) op (s ∷ ss) ≡ None
behind (word w) qs op s ss h = cases (is_text w s) (λ e. rw e (h op)) (λ e. rw e refl)
behind (number x) qs op s ss h =
    elim (id_in s) as (λ v. option_and_then (λ n. reads qs (op n) ss) v ≡ None) [
      | None ↦ refl
      | Some n ↦ h (op n)
    ]
behind (text x) qs op [] ss h = refl
behind (text x) qs op (b ∷ s) ss h = h (op (b ∷ s))

-- ---- paths that have no segments in common

abbrev no_number : Option ℕ → Bool
no_number None = true
no_number (Some n) = false

abbrev isnt : Bool → Bool
isnt v = cond v false true

-- the first has a word there that the second doesn't take
abbrev clash : Part → Part → Bool
clash (word v) (word w) = isnt (is_text v w)
clash (word v) (number x) = no_number (id_in v)
clash _ _ = false

abbrev pub apart : List Part → List Part → Bool
apart [] [] = false
apart [] (q ∷ qs) = true
apart (p ∷ ps) [] = true
apart (p ∷ ps) (q ∷ qs) = clash p q || apart ps qs

some-fit : (p : Part) (ps : List Part) → pieces_fit (loose (p ∷ ps)) [] ≡ false
some-fit (word w) ps = refl
some-fit (number x) ps = refl
some-fit (text x) ps = refl

rest-fit : (p : Part) (ps : List Part) (s : List ℕ) (ss : List (List ℕ)) → pieces_fit (loose (p ∷ ps)) (s ∷ ss) ≡ true → pieces_fit (loose ps) ss ≡ true
rest-fit (word w) ps s ss f = and-r (pointwise nat_eq w s) _ f
rest-fit (number x) ps s ss f = and-r (ltb 0 (length s)) _ f
rest-fit (text x) ps s ss f = and-r (ltb 0 (length s)) _ f

no-read : (x : List ℕ) (qs : List Part) (op : Takes (number x ∷ qs)) (ss : List (List ℕ)) (v : Option ℕ) → no_number v ≡ true → option_and_then (λ n. reads qs (op n) ss) v ≡ None
no-read x qs op ss None h = refl
no-read x qs op ss (Some n) h = cc

clash-read : (p : Part) (ps : List Part) (q : Part) (qs : List Part) (op : Takes (q ∷ qs)) (s : List ℕ) (ss : List (List ℕ)) → clash p q ≡ true
    → pieces_fit (loose (p ∷ ps)) (s ∷ ss) ≡ true → reads (q ∷ qs) op (s ∷ ss) ≡ None
clash-read (word v) ps (word w) qs op s ss c f =
    let same : v ≡ s = (bytes_eq-Decides v s).0 (and_parts (pointwise nat_eq v s) _ f).0 in
    cases (is_text w s) (λ e. let d : is_text v w ≡ true = (bytes_eq-Decides v w).1 (same ∙ sym ((bytes_eq-Decides w s).0 e)) in let k = rw d at c in cc) (λ e. rw e refl)
clash-read (word v) ps (number x) qs op s ss c f =
    let same : v ≡ s = (bytes_eq-Decides v s).0 (and_parts (pointwise nat_eq v s) _ f).0 in
    subst (λ t. reads (number x ∷ qs) op (t ∷ ss) ≡ None) same (no-read x qs op ss (id_in v) c)
clash-read _ ps _ qs op s ss c f = cc

-- segments that fit a path aren't read by one that is apart from it
pub apart-read : (ps qs : List Part) (op : Takes qs) (ss : List (List ℕ)) → apart ps qs ≡ true → pieces_fit (loose ps) ss ≡ true → reads qs op ss ≡ None
apart-read [] [] op ss a f = cc
apart-read [] (q ∷ qs) op [] a f = refl
apart-read [] (q ∷ qs) op (s ∷ ss) a f = cc
apart-read (p ∷ ps) [] op [] a f = let k = some-fit p ps in cc
apart-read (p ∷ ps) [] op (s ∷ ss) a f = refl
apart-read (p ∷ ps) (q ∷ qs) op [] a f = refl
apart-read (p ∷ ps) (q ∷ qs) op (s ∷ ss) a f =
    cases (clash p q) (λ e. clash-read p ps q qs op s ss e f) (λ e. behind q qs op s ss (λ o. apart-read ps qs o ss (rw e at a) (rest-fit p ps s ss f)))

-- ---- what stands in the slots

-- a slot has this name
abbrev has : List ℕ → List Part → Bool
has x [] = false
has x (word w ∷ ps) = has x ps
has x (number y ∷ ps) = is_text y x || has x ps
has x (text y ∷ ps) = is_text y x || has x ps

abbrev number_name : List ℕ → Bool
number_name x = is_text (codes "id") x || (is_text (codes "n") x || is_text (codes "m") x)

-- each slot has a name of its own: that of a number is `id`, `n` or `m`, and that of a text `key`
abbrev pub named : List Part → Bool
named [] = true
named (word w ∷ ps) = named ps
named (number x ∷ ps) = number_name x && (isnt (has x ps) && named ps)
named (text x ∷ ps) = is_text x (codes "key") && (isnt (has x ps) && named ps)

isnt-not : (v : Bool) → isnt v ≡ true → v ≡ false
isnt-not true h = cc
isnt-not false h = refl

is-self : (x : List ℕ) → is_text x x ≡ true
is-self x = (bytes_eq-Decides x x).1 refl

-- where each slot's text is told, and the numbers are these, the route is read
module _ (told : List ℕ → Option (List ℕ)) (v : Numbers) (key : List ℕ) (numbers : (x : List ℕ) → number_name x ≡ true → number_at (told x) ≡ Some (number_named x v))
    (is_key : unwrap_or (told (codes "key")) [] ≡ key) where
  abbrev Tells : List Part → List (List ℕ) → Type 0
  Tells ps ss = (x : List ℕ) → has x ps ≡ true → told x ≡ text_at x (loose ps) ss

  later : (x : List ℕ) (ps : List Part) (s : List ℕ) (ss : List (List ℕ)) → has x ps ≡ false
      → ((y : List ℕ) → (is_text x y || has y ps) ≡ true → told y ≡ cond (is_text x y) (Some s) (text_at y (loose ps) ss)) → Tells ps ss
  later x ps s ss alone t y h =
      cases (is_text x y) (λ e. let k : has x ps ≡ true = subst (λ z. has z ps ≡ true) (sym ((bytes_eq-Decides x y).0 e)) h in cc) (λ e. let k = t y (rw e h) in rw e at k)

  read : (ps : List Part) (op : Takes ps) (ss : List (List ℕ)) → named ps ≡ true → Tells ps ss → pieces_fit (loose ps) ss ≡ true → reads ps op ss ≡ Some (filled ps op v key)
  read [] op [] n t f = refl
  read (word w ∷ ps) op (s ∷ ss) n t f =
      let (same, rest) = and_parts (pointwise nat_eq w s) _ f in
      rw same (read ps op ss n t rest)
  read (number x ∷ ps) op (s ∷ ss) n t f =
      let (name, own) = and_parts (number_name x) _ n in
      let (alone, rest) = and_parts (isnt (has x ps)) _ own in
      let self = is-self x in
      let here : told x ≡ Some s = t x (rw self refl) ∙ (rw self refl) in
      let one : id_in s ≡ Some (number_named x v) = ap number_at (sym here) ∙ numbers x name in
      rw one (read ps (op (number_named x v)) ss rest (later x ps s ss (isnt-not (has x ps) alone) t) (and-r (ltb 0 (length s)) _ f))
  read (text x ∷ ps) op ((b ∷ s) ∷ ss) n t f =
      let (name, own) = and_parts (is_text x (codes "key")) _ n in
      let (alone, rest) = and_parts (isnt (has x ps)) _ own in
      let self = is-self x in
      let here : told x ≡ Some (b ∷ s) = t x (rw self refl) ∙ (rw self refl) in
      let k : b ∷ s ≡ key = ap (λ o. unwrap_or o []) (sym here) ∙ ap (λ z. unwrap_or (told z) []) ((bytes_eq-Decides x (codes "key")).0 name) ∙ is_key in
      subst (λ z. reads ps (op (b ∷ s)) ss ≡ Some (filled ps (op z) v key)) k
      (read ps (op (b ∷ s)) ss rest (later x ps (b ∷ s) ss (isnt-not (has x ps) alone) t) (and-r (ltb 0 (length (b ∷ s))) _ f))
  read _ op _ n t f = cc

-- where what stands in a slot for a number is none, the route isn't read
blocked : (x : List ℕ) → is_text (codes "key") x ≡ false → (ps : List Part) (op : Takes ps) (ss : List (List ℕ)) → named ps ≡ true → number_at (text_at x (loose ps) ss) ≡ None
    → reads ps op ss ≡ None
blocked x other [] op ss n h = cc
blocked x other (p ∷ ps) op [] n h = refl
blocked x other (word w ∷ ps) op (s ∷ ss) n h = behind (word w) ps op s ss (λ o. blocked x other ps o ss n h)
blocked x other (number y ∷ ps) op (s ∷ ss) n h =
    let rest = and-r (isnt (has y ps)) _ (and-r (number_name y) _ n) in
    cases (is_text y x) (λ e. let k : id_in s ≡ None = rw e at h in rw k refl) (λ e. behind (number y) ps op s ss (λ o. blocked x other ps o ss rest (rw e at h)))
blocked x other (text y ∷ ps) op (s ∷ ss) n h =
    let (name, own) = and_parts (is_text y (codes "key")) _ n in
    let not : is_text y x ≡ false = subst (λ z. is_text z x ≡ false) (sym ((bytes_eq-Decides y (codes "key")).0 name)) other in
    behind (text y) ps op s ss (λ o. blocked x other ps o ss (and-r (isnt (has y ps)) _ own) (rw not at h))

-- of segments that fit a route's pattern it reads its operation, filled by what stands in the slots, if each number is one
pub asks-filled : (ps : List Part) (op : Takes ps) (ss : List (List ℕ)) → named ps ≡ true → pieces_fit (loose ps) ss ≡ true → reads ps op ss
    ≡ option_map (λ v. filled ps op v (unwrap_or (text_at (codes "key") (loose ps) ss) []))
    (numbers_in (text_at (codes "id") (loose ps) ss) (text_at (codes "n") (loose ps) ss) (text_at (codes "m") (loose ps) ss))
asks-filled ps op ss n f = by _ _ _ refl refl refl
  where
    by : (i k l : Option ℕ) → number_at (text_at (codes "id") (loose ps) ss) ≡ i → number_at (text_at (codes "n") (loose ps) ss) ≡ k → number_at (text_at (codes "m") (loose ps) ss) ≡ l
        → reads ps op ss ≡ option_map (λ v. filled ps op v (unwrap_or (text_at (codes "key") (loose ps) ss) []))
        (option_and_then (λ i. option_and_then (λ k. option_map (λ l. record { id = i; n = k; m = l }) l) k) i)
    by None k l a b c = blocked (codes "id") refl ps op ss n a
    by (Some i) None l a b c = blocked (codes "n") refl ps op ss n b
    by (Some i) (Some k) None a b c = blocked (codes "m") refl ps op ss n c
    by (Some i) (Some k) (Some l) a b c =
        let v : Numbers = record { id = i; n = k; m = l } in
        let at : (x : List ℕ) → number_name x ≡ true → number_at (text_at x (loose ps) ss) ≡ Some (number_named x v) = λ x h.
        let to = λ (z : List ℕ). λ (e : is_text z x ≡ true). λ (q : number_at (text_at z (loose ps) ss) ≡ Some (number_named z v)).
        subst (λ y. number_at (text_at y (loose ps) ss) ≡ Some (number_named y v)) ((bytes_eq-Decides z x).0 e) q in
        cases (is_text (codes "id") x) (λ e. to (codes "id") e a)
        (λ d. cases (is_text (codes "n") x) (λ e. to (codes "n") e b) (λ g. cases (is_text (codes "m") x) (λ e. to (codes "m") e c) (λ e. let q = rw (d, g, e) at h in cc))) in
        read (λ x. text_at x (loose ps) ss) v (unwrap_or (text_at (codes "key") (loose ps) ss) []) at refl ps op ss n (λ x h. refl) f
