-- What `get` gives of a match is the segment at the slot of that name.
use Rattle.std.proofs.Common.{◌≡◌, ℕ, zero, suc, ◌<◌, List, [], ◌∷◌, length, map, get_or, Option, Some, Bool, true, refl, sym, ap, ◌∙◌, arith, ltb, ◌&&◌}
use Rattle.std.specs.List.{list_all}
use Rattle.std.proofs.lemmas.Bool.{and_parts, ltb-true}
use Rattle.std.specs.Str.{IsUtf8}
use Rattle.std.proofs.lemmas.Str.{IsUtf8-from_ascii}
use Rattle.matchit.specs.Params.{walk, part_of, named, AllText}
use Rattle.matchit.specs.Rows.{RowsOf}
use Rattle.matchit.specs.Router.{RouteOf}
use Rattle.ci_http_messages.specs.Prelude.{fits, tokens, tidy, first_fit, Piece, fixed, slot, pieces_fit, slot_names, slot_texts, text_at, text_of, segments}
use Rattle.ci_http_messages.proofs.Walks.{cases, and-l, and-r}
use Rattle.ci_http_messages.proofs.Splits.{plain, fits-pieces}
use Rattle.ci_http_messages.proofs.Takes.{seconds, slots, walk-taken}
use Rattle.ci_http_messages.proofs.Texts.{AllUtf8, plain_tokens, taken-utf8}
use Rattle.ci_http_messages.proofs.Slots.{takes-pieces}

abbrev pub firsts : List (List ℕ × List ℕ) → List (List ℕ)
firsts pairs = map (λ pair. pair.0) pairs

abbrev pub names_of : List ℕ → List (ℕ × ℕ) → List (List ℕ)
names_of text names = map (λ name. part_of text name.0 name.1) names

walk-names : (P T A : List ℕ) (names : List (ℕ × ℕ)) (tok at : ℕ) → firsts (walk P T A names tok at) ≡ names_of T names
walk-names P T A [] tok at = refl
walk-names P T A (n ∷ rest) tok at = ap (λ z. part_of T n.0 n.1 ∷ z) (walk-names P T A rest _ _)

all-text : (l : List (List ℕ × List ℕ)) → AllUtf8 (firsts l) → AllUtf8 (seconds l) → AllText l
all-text [] a b = tt
all-text (q ∷ l) a b = (a.0, b.0, all-text l a.1 b.1)

named-text : (key : List ℕ) (ps : List Piece) (ss : List (List ℕ)) (l : List (List ℕ × List ℕ)) → firsts l ≡ slot_names ps → seconds l ≡ slot_texts ps ss → named key l ≡ text_at key ps ss
named-text key [] ss [] f g = refl
named-text key [] ss (q ∷ l) f g = cc
named-text key (p ∷ ps) [] [] f g = refl
named-text key (p ∷ ps) [] (q ∷ l) f g = cc
named-text key (fixed w ∷ ps) (s ∷ ss) l f g = named-text key ps ss l f g
named-text key (slot name ∷ ps) (s ∷ ss) [] f g = cc
named-text key (slot name ∷ ps) (s ∷ ss) (q ∷ l) f g =
    let a : q.0 ≡ name = cc in
    let b : q.1 ≡ s = cc in
    let c : firsts l ≡ slot_names ps = cc in
    let d : seconds l ≡ slot_texts ps ss = cc in
    rw (a, b, named-text key ps ss l c d) refl

abbrev pub all_ascii : List ℕ → Bool
all_ascii l = list_all (λ x. ltb x 128) l

ascii-is : (l : List ℕ) → all_ascii l ≡ true → (i : ℕ) → get_or l i 0 < 128
ascii-is [] h i = omega arith
ascii-is (x ∷ l) h zero = ltb-true x 128 (and-l (ltb x 128) _ h)
ascii-is (x ∷ l) h (suc i) = ascii-is l (and-r (ltb x 128) _ h) i

abbrev pub utf8_names : List (List ℕ) → Bool
utf8_names names = list_all all_ascii names

names-utf8 : (l : List (List ℕ)) → utf8_names l ≡ true → AllUtf8 l
names-utf8 [] h = tt
names-utf8 (n ∷ l) h = (IsUtf8-from_ascii n (ascii-is n (and-l (all_ascii n) _ h)), names-utf8 l (and-r (all_ascii n) _ h))

-- a row of the router for a route of the table
abbrev pub checks : List Piece → Bool
checks ps = plain ps && (tidy (tokens ps) && (plain_tokens (tokens ps) && (ltb (length (tokens ps)) 18446744073709551615 && utf8_names (slot_names ps))))

module _ {T : Type 0} where
  abbrev pub IsRow : List ℕ → RouteOf T → List Piece → Type 0
  IsRow t e ps = (t ≡ tokens ps) × (e.pattern ≡ tokens ps) × (names_of e.text e.names ≡ slot_names ps) × (slots (tokens ps) ≡ length e.names) × (checks ps ≡ true)

  abbrev pub AreRows : {K : Type 0} → RowsOf (RouteOf T) → List (List Piece × K) → Type 0
  AreRows [] [] = Unit {0}
  AreRows [] (o ∷ os) = ⊥
  AreRows (r ∷ rs) [] = ⊥
  AreRows (r ∷ rs) (o ∷ os) = IsRow r.0 r.1 o.0 × AreRows rs os

  abbrev pub Gives : List ℕ → RouteOf T → List ℕ → Option (List ℕ) → Type 0
  Gives key e path answer = AllText (walk e.pattern e.text path e.names 0 0) × (named key (walk e.pattern e.text path e.names 0 0) ≡ answer)

on-pattern : {T : Type 0} (key : List ℕ) (e : RouteOf T) (P path : List ℕ) (answer : Option (List ℕ)) → e.pattern ≡ P
    → AllText (walk P e.text path e.names 0 0) → named key (walk P e.text path e.names 0 0) ≡ answer → Gives key e path answer
on-pattern key e P path answer q a n = rw q (a, n)

row-gives : {T : Type 0} (key t : List ℕ) (e : RouteOf T) (ps : List Piece) (p : List ℕ) → IsRow t e ps → fits t (47 ∷ p) ≡ true → IsUtf8 (47 ∷ p) → Gives key e (47 ∷ p) (text_at key ps (segments p))
row-gives key t e ps p r h u =
    let (c1, r1) = and_parts (plain ps) _ r.4 in
    let (c2, r2) = and_parts (tidy (tokens ps)) _ r1 in
    let (c3, r3) = and_parts (plain_tokens (tokens ps)) _ r2 in
    let (c4, c5) = and_parts (ltb (length (tokens ps)) 18446744073709551615) _ r3 in
    let short = ltb-true (length (tokens ps)) 18446744073709551615 c4 in
    let f : fits (tokens ps) (47 ∷ p) ≡ true = rw r.0 at h in
    let s = walk-taken (tokens ps) e.text (47 ∷ p) short (tokens ps) (47 ∷ p) e.names 0 0 refl refl (omega arith) f c2 r.3 in
    let n = walk-names (tokens ps) e.text (47 ∷ p) e.names 0 0 in
    let nu : AllUtf8 (firsts (walk (tokens ps) e.text (47 ∷ p) e.names 0 0)) = rw (n, r.2) (names-utf8 (slot_names ps) c5) in
    let tu : AllUtf8 (seconds (walk (tokens ps) e.text (47 ∷ p) e.names 0 0)) = rw s (taken-utf8 (tokens ps) (47 ∷ p) c3 f u) in
    on-pattern key e (tokens ps) (47 ∷ p) (text_at key ps (segments p)) r.1 (all-text _ nu tu)
    (named-text key ps (segments p) _ (n ∙ r.2) (s ∙ takes-pieces ps p c1 f))

pub rows-give : {T K : Type 0} (key : List ℕ) (rs : RowsOf (RouteOf T)) (os : List (List Piece × K)) (p : List ℕ) (e : RouteOf T) → AreRows rs os → IsUtf8 (47 ∷ p)
    → first_fit rs (47 ∷ p) ≡ Some e → Gives key e (47 ∷ p) (text_of key os (segments p))
rows-give key [] os p e a u h = cc
rows-give key (r ∷ rs) [] p e a u h = elim a [ ]
rows-give key ((t, d) ∷ rs) ((ps, k) ∷ os) p e a u h =
    let same : fits t (47 ∷ p) ≡ pieces_fit ps (segments p) = rw a.0.0 (fits-pieces ps p (and-l (plain ps) _ a.0.4)) in
    cases (fits t (47 ∷ p)) (
    λ q.
    let de : d ≡ e = let k = rw q at h in cc in
    rw (sym same ∙ q, ← de) (row-gives key t d ps p a.0 q u)
    )
    (λ q. rw (sym same ∙ q) (rows-give key rs os p e a.1 u (rw q at h)))
