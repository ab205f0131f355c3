-- A path fits a route's tokens as its segments fit the route's pieces.
use Rattle.std.proofs.Common.{◌≡◌, ℕ, suc, List, [], ◌∷◌, ◌++◌, length, map, None, Bool, true, false, cond, refl, arith, ◌==◌, ltb, ◌&&◌}
use Rattle.std.specs.List.{list_all}
use Rattle.std.proofs.lemmas.Bool.{and_parts}
use Rattle.std.proofs.lemmas.Bool.Decides.{nat_tests}
use Rattle.matchit.specs.Rows.{RowsOf}
use Rattle.ci_http_messages.specs.Prelude.{after, fits, tokens, first_fit, Piece, fixed, slot, pieces_fit, first_of, pattern_in, onto, segments}
use Rattle.ci_http_messages.proofs.Walks.{cases, same-byte, and-l, and-r}

-- a word has no slash and only bytes
abbrev pub plain_word : List ℕ → Bool
plain_word [] = true
plain_word (x ∷ w) = (ltb x 256 && cond (x == 47) false true) && plain_word w

abbrev pub plain : List Piece → Bool
plain [] = true
plain (fixed w ∷ ps) = plain_word w && plain ps
plain (slot name ∷ ps) = plain ps

pub segments-some : (p : List ℕ) → (s : List ℕ) × (ss : List (List ℕ)) × (segments p ≡ s ∷ ss)
segments-some [] = ([], [], refl)
segments-some (b ∷ p) =
    let (s, ss, is) = segments-some p in
    cases (b == 47) (λ e. ([], segments p, rw e refl)) (λ e. (b ∷ s, ss, rw (e, is) refl))

-- the segments after the first
abbrev pub rest_of : List (List ℕ) → List (List ℕ)
rest_of [] = []
rest_of (s ∷ ss) = ss

pub rest-onto : (b : ℕ) (p : List ℕ) → rest_of (onto b (segments p)) ≡ rest_of (segments p)
rest-onto b p = let h = segments-some p in rw h.2 refl

nil-fits : (ps : List Piece) → fits (tokens ps) [] ≡ pieces_fit ps []
nil-fits [] = refl
nil-fits (p ∷ ps) = refl

-- after a segment that has ended, a byte that is no slash fits nothing
pub stray : (ps : List Piece) (b : ℕ) (p : List ℕ) → (b == 47) ≡ false → fits (tokens ps) (b ∷ p) ≡ false
stray [] b p e = refl
stray (q ∷ ps) b p e =
    let n : (47 == b) ≡ false = grind (arith, nat_tests) in
    rw n refl

abbrev Follows : List Piece → Type 0
Follows ps = (q : List ℕ) → fits (tokens ps) (47 ∷ q) ≡ pieces_fit ps (segments q)

word-fits : (w : List ℕ) (ps : List Piece) (p : List ℕ) → plain_word w ≡ true → Follows ps → fits (w ++ tokens ps) p ≡ pieces_fit (fixed w ∷ ps) (segments p)
word-fits [] ps [] h ih = nil-fits ps
word-fits [] ps (b ∷ p) h ih = cases (b == 47) (λ e. rw (same-byte b 47 e) (ih p)) (λ e. let m = segments-some p in rw (e, m.2) (stray ps b p e))
word-fits (x ∷ w) ps [] h ih = refl
word-fits (x ∷ w) ps (b ∷ p) h ih =
    let (k, r) = and_parts (ltb x 256 && cond (x == 47) false true) _ h in
    let go = word-fits w ps p r ih in
    let m = segments-some p in
    let n : (x == 256) ≡ false = grind (arith, nat_tests) in
    cases (b == 47) (λ e. let d : (x == b) ≡ false = grind (arith, nat_tests) in rw (n, d, e) refl)
    (λ e. cases (x == b) (λ f. rw (n, e, m.2, f) (rw m.2 at go)) (λ f. rw (n, e, m.2, f) refl))

end-fits : (ps : List Piece) (p : List ℕ) → Follows ps → fits (tokens ps) (after p) ≡ pieces_fit ps (rest_of (segments p))
end-fits ps [] ih = nil-fits ps
end-fits ps (b ∷ p) ih = cases (b == 47) (λ e. rw (same-byte b 47 e) (ih p)) (λ e. rw (e, rest-onto b p) (end-fits ps p ih))

slot-fits : (name : List ℕ) (ps : List Piece) (p : List ℕ) → Follows ps → fits (256 ∷ tokens ps) p ≡ pieces_fit (slot name ∷ ps) (segments p)
slot-fits name ps [] ih = refl
slot-fits name ps (b ∷ p) ih =
    let m = segments-some p in
    let end = end-fits ps p ih in
    let go : fits (tokens ps) (after p) ≡ pieces_fit ps m.1 = rw m.2 at end in
    let lt : ltb 0 (suc (length m.0)) ≡ true = grind (arith, nat_tests) in
    cases (b == 47) (λ e. rw e refl) (λ e. rw (e, m.2, lt) go)

pub fits-pieces : (ps : List Piece) (p : List ℕ) → plain ps ≡ true → fits (tokens ps) (47 ∷ p) ≡ pieces_fit ps (segments p)
fits-pieces [] p h = let m = segments-some p in rw m.2 refl
fits-pieces (fixed w ∷ ps) p h = word-fits w ps p (and-l (plain_word w) _ h) (λ q. fits-pieces ps q (and-r (plain_word w) _ h))
fits-pieces (slot name ∷ ps) p h = slot-fits name ps p (λ q. fits-pieces ps q h)

abbrev pub some_pieces : List Piece → Bool
some_pieces [] = false
some_pieces (p ∷ ps) = true

-- a whole table
module _ {K : Type 0} where
  abbrev pub token_rows : List (List Piece × K) → RowsOf K
  token_rows rs = map (λ r. (tokens r.0, r.1)) rs

  abbrev pub all_plain : List (List Piece × K) → Bool
  all_plain rs = list_all (λ r. some_pieces r.0 && plain r.0) rs

first-pieces : {K : Type 0} (rs : List (List Piece × K)) (p : List ℕ) → all_plain rs ≡ true → first_fit (token_rows rs) (47 ∷ p) ≡ first_of rs (segments p)
first-pieces [] p h = refl
first-pieces ((ps, k) ∷ rest) p h =
    let a = and-r (some_pieces ps) _ (and-l (some_pieces ps && plain ps) _ h) in
    rw (fits-pieces ps p a, first-pieces rest p (and-r (some_pieces ps && plain ps) _ h)) refl

no-pieces : {K : Type 0} (rs : List (List Piece × K)) → all_plain rs ≡ true → first_fit (token_rows rs) [] ≡ None
no-pieces [] h = refl
no-pieces (([], k) ∷ rest) h = cc
no-pieces ((q ∷ ps, k) ∷ rest) h = no-pieces rest (and-r (some_pieces (q ∷ ps) && plain (q ∷ ps)) _ h)

stray-pieces : {K : Type 0} (rs : List (List Piece × K)) (b : ℕ) (p : List ℕ) → (b == 47) ≡ false → first_fit (token_rows rs) (b ∷ p) ≡ None
stray-pieces [] b p e = refl
stray-pieces ((ps, k) ∷ rest) b p e = rw (stray ps b p e) (stray-pieces rest b p e)

pub first-in : {K : Type 0} (rs : List (List Piece × K)) (path : List ℕ) → all_plain rs ≡ true → first_fit (token_rows rs) path ≡ pattern_in rs path
first-in rs [] h = no-pieces rs h
first-in rs (b ∷ p) h = cases (b == 47) (λ e. rw (same-byte b 47 e) (first-pieces rs p h)) (λ e. rw e (stray-pieces rs b p e))
