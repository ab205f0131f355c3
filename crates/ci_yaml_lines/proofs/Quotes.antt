-- Quoted scalars, read from mark to mark.
use Rattle.std.proofs.Common.{◌≡◌, ℕ, zero, suc, ◌+◌, ◌<◌, ◌≤◌, Bool, true, false, cond, List, [], ◌∷◌, ◌++◌, length, take, drop, get_or, slice_index, ◌⊎◌, inl, inr, Option, Some}
use Rattle.std.proofs.Common.{None, refl, sym, ◌∙◌, ap, arith, append_assoc, ◌==◌, ◌||◌, nat_lt, IfSome}
use Rattle.std.specs.List.{position, position_or_len}
use Rattle.std.proofs.lemmas.List.Sums.{fails_before_first}
use Rattle.std.proofs.lemmas.List.Quantifiers.{position-Some}
use Rattle.std.proofs.lemmas.Bool.{eqb-true, or_parts, or_cases, cond-true, cond-false, cases_Bool, ltb-false}
use Rattle.std.proofs.lemmas.List.{append-nil, drop_all}
use Rattle.ci_yaml_lines.proofs.Lists.{drop-at}
use Rattle.ci_yaml_lines.specs.Scalar.{Quoted}
use Rattle.ci_yaml_lines.proofs.Bools.{or_false}
use Rattle.ci_yaml_lines.specs.Prelude.{with_byte, wrongly, closes, with_words, from_place, single, is_escape, escaped, escape_of, double, head_is, tail_of, with_wrong}

pub words-nil : (q : Option Quoted) → with_words [] q ≡ q
words-nil None = refl
words-nil (Some q) = refl

pub words-words : (xs ys : List ℕ) (q : Option Quoted) → with_words xs (with_words ys q) ≡ with_words (xs ++ ys) q
words-words xs ys None = refl
words-words xs ys (Some q) = ap (λ (t : List ℕ). Some (record { text = t; wrong = q.wrong; rest = q.rest })) (sym (append_assoc xs ys q.text))

byte-words : (b : ℕ) (ws : List ℕ) (q : Option Quoted) → with_byte b (with_words ws q) ≡ with_words (b ∷ ws) q
byte-words b ws None = refl
byte-words b ws (Some q) = refl

pub byte-is : (b : ℕ) (q : Option Quoted) → with_byte b q ≡ with_words (b ∷ []) q
byte-is b None = refl
byte-is b (Some q) = refl

pub wrong-words : (w : Bool) (ws : List ℕ) (q : Option Quoted) → with_wrong w (with_words ws q) ≡ with_words ws (with_wrong w q)
wrong-words w ws None = refl
wrong-words w ws (Some q) = refl

pub wrong-wrong : (v w : Bool) (q : Option Quoted) → with_wrong v (with_wrong w q) ≡ with_wrong (v || w) q
wrong-wrong v w None = refl
wrong-wrong true w (Some q) = refl
wrong-wrong false w (Some q) = refl

pub wrong-not : (q : Option Quoted) → with_wrong false q ≡ q
wrong-not None = refl
wrong-not (Some q) = refl

pub wrong-is : (q : Option Quoted) → wrongly q ≡ with_wrong true q
wrong-is None = refl
wrong-is (Some q) = refl

-- ---- up to the first mark

up-to : (f : List ℕ → Option Quoted) (p : ℕ → Bool) → ((b : ℕ) (bs : List ℕ) → p b ≡ false → f (b ∷ bs) ≡ with_byte b (f bs))
    → (bs : List ℕ) (n : ℕ) → n ≤ length bs → ((k : ℕ) → k < n → p (get_or bs k 0) ≡ false) → f bs ≡ with_words (take n bs) (f (drop n bs))
up-to f p other bs zero le fails = sym (words-nil (f bs))
up-to f p other [] (suc n) le fails = absurd (omega arith)
up-to f p other (b ∷ bs) (suc n) le fails =
    other b bs (fails 0 (omega arith)) ∙ ap (with_byte b) (up-to f p other bs n (omega arith) (λ k l. fails (suc k) (omega arith))) ∙ byte-words b (take n bs) (f (drop n bs))

found_by : (f : List ℕ → Option Quoted) (p : ℕ → Bool) → ((b : ℕ) (bs : List ℕ) → p b ≡ false → f (b ∷ bs) ≡ with_byte b (f bs)) → f [] ≡ None
    → (bs : List ℕ) (r : Option ℕ) → r ≡ position p bs → f bs ≡ from_place f bs r
found_by f p other nil bs None e =
    up-to f p other bs (length bs) (omega arith) (λ k lt. none (position_or_len p bs) (nat_lt (position_or_len p bs) (length bs)) refl e k lt)
    ∙ ap (with_words (take (length bs) bs)) (ap f (drop_all (length bs) bs (omega arith)) ∙ nil)
  where
    none : (n : ℕ) (t : Bool) → nat_lt (position_or_len p bs) (length bs) ≡ t → None ≡ cond (nat_lt (position_or_len p bs) (length bs)) (Some (position_or_len p bs)) None → (k : ℕ) → k < length bs → p (get_or bs k 0) ≡ false
    none n true is e k lt = let e2 : None ≡ Some (position_or_len p bs) = e ∙ ap (λ t. cond t (Some (position_or_len p bs)) None) is in absurd cc
    none n false is e k lt = fails_before_first p bs k 0 (omega (arith, ltb-false (position_or_len p bs) (length bs) is))
found_by f p other nil bs (Some i) e =
    let at = position-Some p bs i 0 (sym e) in
    up-to f p other bs i (omega (arith, at.0)) at.2 ∙ λ j. with_words (take i bs) (f (drop-at bs i 0 at.0 j))

place_by : (p : ℕ → Bool) (P : ℕ → Type 0) → ((b : ℕ) → p b ≡ true → P b) → (bs : List ℕ) (r : Option ℕ) → r ≡ position p bs → IfSome r (λ i. (i < length bs) × P (get_or bs i 0))
place_by p P holds bs None e = tt
place_by p P holds bs (Some i) e = let at = position-Some p bs i 0 (sym e) in (at.0, holds (get_or bs i 0) at.1)

-- ---- the two kinds

pub single-other : (b : ℕ) (bs : List ℕ) → (b == 39) ≡ false → single (b ∷ bs) ≡ with_byte b (single bs)
single-other b [] e = ap (λ t. cond t (closes []) None) e
single-other b (c ∷ bs) e = ap (λ t. cond t (cond (39 == c) (with_byte 39 (single bs)) (closes (c ∷ bs))) (with_byte b (single (c ∷ bs)))) e

-- after a quote
pub single-quote : (bs : List ℕ) → single (39 ∷ bs) ≡ cond (head_is 39 bs) (with_words (39 ∷ []) (single (tail_of bs))) (closes bs)
single-quote [] = refl
single-quote (c ∷ bs) = ap (λ q. cond (39 == c) q (closes (c ∷ bs))) (byte-is 39 (single bs))

pub double-other : (b : ℕ) (bs : List ℕ) → ((b == 34) || (b == 92)) ≡ false → double (b ∷ bs) ≡ with_byte b (double bs)
double-other b [] e = cond-false (b == 34) _ _ (or_parts (b == 34) (b == 92) e).0
double-other b (c ∷ bs) e = let at = or_parts (b == 34) (b == 92) e in cond-false (b == 34) _ _ at.0 ∙ cond-false (b == 92) _ _ at.1

pub double-quote : (bs : List ℕ) → double (34 ∷ bs) ≡ closes bs
double-quote [] = refl
double-quote (c ∷ bs) = refl

-- after a backslash that stands rightly
double-escape : (bs ws : List ℕ) → escape_of bs ≡ Some ws → double (92 ∷ bs) ≡ with_words ws (double (tail_of bs))
double-escape [] ws e = absurd cc
double-escape (c ∷ bs) ws e = elim (cases_Bool (is_escape c)) [
  | inl is ↦
      let same : Some (escaped c ∷ []) ≡ Some ws = (λ i. cond (sym is i) (Some (escaped c ∷ [])) None) ∙ e in
      let words : escaped c ∷ [] ≡ ws = cc in
      cond-true (is_escape c) _ _ is ∙ byte-is (escaped c) (double bs) ∙ λ i. with_words (words i) (double bs)
  | inr is ↦ let bad : None ≡ Some ws = (λ i. cond (sym is i) (Some (escaped c ∷ [])) None) ∙ e in absurd cc
]

-- after one that doesn't
double-misused : (bs : List ℕ) → escape_of bs ≡ None → double (92 ∷ bs) ≡ with_wrong true (double bs)
double-misused [] e = refl
double-misused (c ∷ bs) e = elim (cases_Bool (is_escape c)) [
  | inl is ↦ let bad : Some (escaped c ∷ []) ≡ None = (λ i. cond (sym is i) (Some (escaped c ∷ [])) None) ∙ e in absurd cc
  | inr is ↦ cond-false (is_escape c) _ _ is ∙ wrong-is (double (c ∷ bs))
]

pub single-found : (bs : List ℕ) (r : Option ℕ) → r ≡ position (λ b. b == 39) bs → single bs ≡ from_place single bs r
single-found bs r e = found_by single (λ b. b == 39) single-other refl bs r e

pub double-found : (bs : List ℕ) (r : Option ℕ) → r ≡ position (λ b. (b == 34) || (b == 92)) bs → double bs ≡ from_place double bs r
double-found bs r e = found_by double (λ b. (b == 34) || (b == 92)) double-other refl bs r e

pub single-place : (bs : List ℕ) (r : Option ℕ) → r ≡ position (λ b. b == 39) bs → IfSome r (λ i. (i < length bs) × (get_or bs i 0 ≡ 39))
single-place bs r e = place_by (λ b. b == 39) (λ b. b ≡ 39) (λ b is. eqb-true b 39 is) bs r e

pub double-place : (bs : List ℕ) (r : Option ℕ) → r ≡ position (λ b. (b == 34) || (b == 92)) bs → IfSome r (λ i. (i < length bs) × ((get_or bs i 0 ≡ 34) ⊎ (get_or bs i 0 ≡ 92)))
double-place bs r e =
    place_by (λ b. (b == 34) || (b == 92)) (λ b. (b ≡ 34) ⊎ (b ≡ 92)) (λ b is. elim (or_cases (b == 34) (b == 92) is) [ inl f ↦ inl (eqb-true b 34 f) | inr f ↦ inr (eqb-true b 92 f) ]) bs r e

pub ruleset single_marks = (single-found, single-place)

pub ruleset double_marks = (double-found, double-place)

-- ---- what the code does at a backslash

pub unescaped : (w v m rest more : List ℕ) → v ≡ w ++ m → more ≡ tail_of rest → escape_of rest ≡ Some m → with_words v (with_wrong false (double more)) ≡ with_words w (double (92 ∷ rest))
unescaped w v m rest more v-is more-is e =
    (λ i. with_words (v-is i) (wrong-not (double (more-is i)) i)) ∙ sym (words-words w m (double (tail_of rest))) ∙ ap (with_words w) (sym (double-escape rest m e))

pub misused : (w rest : List ℕ) → escape_of rest ≡ None → with_words w (with_wrong true (double rest)) ≡ with_words w (double (92 ∷ rest))
misused w rest e = ap (with_words w) (sym (double-misused rest e))

-- ---- what the code does at a mark

-- f reads a text up to its first mark
pub mark-parts : (f : List ℕ → Option Quoted) (k : ℕ) (text bs front rest : List ℕ) (i : ℕ) → bs ≡ text → f bs ≡ from_place f bs (Some i) → slice_index bs i ≡ k → front ≡ take i text → rest ≡ drop (i + 1) text
    → f text ≡ with_words front (f (k ∷ rest))
mark-parts f k text bs front rest i bs-is value place front-is rest-is =
    ap f (sym bs-is) ∙ value ∙ (λ j. with_words (take i (bs-is j)) (f (place j ∷ drop (i + 1) (bs-is j)))) ∙ λ j. with_words (sym front-is j) (f (k ∷ sym rest-is j))

pub mark-is : (b : ℕ) → (b ≡ 34) ⊎ (b ≡ 92) → b ≡ cond (b == 92) 92 34
mark-is b (inl e) = e ∙ λ i. cond (sym e i == 92) 92 34
mark-is b (inr e) = e ∙ λ i. cond (sym e i == 92) 92 34

-- ---- at a quote

-- that a second one follows
after-pair : (rest : List ℕ) → head_is 39 rest ≡ true → single (39 ∷ rest) ≡ with_words (39 ∷ []) (single (tail_of rest))
after-pair rest head = single-quote rest ∙ cond-true (head_is 39 rest) _ _ head

-- that none follows
pub after-quote : (w rest : List ℕ) → head_is 39 rest ≡ false → with_words w (single (39 ∷ rest)) ≡ Some (record { text = w; wrong = false; rest = rest })
after-quote w rest head =
    ap (with_words w) (single-quote rest ∙ cond-false (head_is 39 rest) _ _ head) ∙ λ i. Some (record { text = append-nil w i; wrong = false; rest = rest })

tail-le : (bs : List ℕ) → length (tail_of bs) ≤ length bs
tail-le [] = omega arith
tail-le (b ∷ bs) = omega arith

pub shorter-tail : (behind more rest : List ℕ) → more ≡ tail_of rest → length behind < length more → length behind < length rest
shorter-tail behind more rest is lt = omega (arith, ap length is, tail-le rest)

-- behind a pair of them
behind-pair : (w more rest : List ℕ) (q : Option Quoted) → head_is 39 rest ≡ true → more ≡ tail_of rest → single more ≡ q → with_words w (single (39 ∷ rest)) ≡ with_words (w ++ 39 ∷ []) q
behind-pair w more rest q head more-is goes =
    ap (with_words w) (after-pair rest head) ∙ words-words w (39 ∷ []) (single (tail_of rest)) ∙ ap (with_words (w ++ 39 ∷ [])) (ap single (sym more-is) ∙ goes)

pub pair-turn : (w v u front more rest behind : List ℕ) → head_is 39 rest ≡ true → more ≡ tail_of rest → single more ≡ with_words front (single (39 ∷ behind)) → v ≡ w ++ 39 ∷ [] → u ≡ v ++ front
    → with_words u (single (39 ∷ behind)) ≡ with_words w (single (39 ∷ rest))
pair-turn w v u front more rest behind head more-is goes v-is u-is =
    let q : Option Quoted = single (39 ∷ behind) in
    (λ i. with_words ((u-is ∙ λ j. v-is j ++ front) i) q) ∙ sym (behind-pair w more rest (with_words front q) head more-is goes ∙ words-words (w ++ 39 ∷ []) front q)

pub pair-open : (w more rest : List ℕ) → head_is 39 rest ≡ true → more ≡ tail_of rest → single more ≡ None → None ≡ with_words w (single (39 ∷ rest))
pair-open w more rest head more-is none = sym (behind-pair w more rest None head more-is none)

-- ---- at a mark in double quotes

pub double-closed : (front text rest : List ℕ) → double text ≡ with_words front (double (34 ∷ rest)) → double text ≡ Some (record { text = front; wrong = false; rest = rest })
double-closed front text rest goes = goes ∙ ap (with_words front) (double-quote rest) ∙ λ i. Some (record { text = append-nil front i; wrong = false; rest = rest })

-- a turn of the reading of escapes: what the backslash stood for has been added
pub turn-wrong : (w v : List ℕ) (wrong misused : Bool) (x y : Option Quoted) → with_words v (with_wrong misused x) ≡ with_words w y → with_words v (with_wrong (wrong || misused) x) ≡ with_words w (with_wrong wrong y)
turn-wrong w v wrong misused x y e =
    ap (with_words v) (sym (wrong-wrong wrong misused x)) ∙ sym (wrong-words wrong v (with_wrong misused x)) ∙ ap (with_wrong wrong) e ∙ wrong-words wrong w y

pub turn-front : (v u front : List ℕ) (wrong : Bool) (x y : Option Quoted) → u ≡ v ++ front → x ≡ with_words front y → with_words u (with_wrong wrong y) ≡ with_words v (with_wrong wrong x)
turn-front v u front wrong x y u-is x-is =
    (λ i. with_words (u-is i) (with_wrong wrong y)) ∙ sym (words-words v front (with_wrong wrong y)) ∙ ap (with_words v) (sym (wrong-words wrong front y) ∙ λ i. with_wrong wrong (sym x-is i))

pub turn-closed : (u behind : List ℕ) (wrong : Bool) → with_words u (with_wrong wrong (double (34 ∷ behind))) ≡ Some (record { text = u; wrong = wrong; rest = behind })
turn-closed u behind wrong =
    (λ i. with_words u (with_wrong wrong (double-quote behind i))) ∙ λ i. Some (record { text = append-nil u i; wrong = or_false wrong i; rest = behind })
