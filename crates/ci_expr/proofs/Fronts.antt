-- What is read at the front is a token, or what stops there.
use Rattle.std.proofs.Common.{◌≡◌, ℕ, zero, suc, ◌+◌, ◌-◌, ◌<◌, ◌≤◌, Bool, true, false, cond, List, [], ◌∷◌, ◌++◌, length, take, drop, get_or, Option, Some, None, option_map}
use Rattle.std.proofs.Common.{Result, Ok, Err, IfOk, refl, sym, ◌∙◌, ap, subst, arith, ⊎_elim, append_assoc, take-suc, IsCharBoundary, IsUtf8, ◌==◌, ◌||◌, ◌&&◌, nat_le}
use Rattle.std.proofs.lemmas.Bool.{cases_lt, eqb-true, cond_both, cond-false}
use Rattle.std.proofs.lemmas.Bool.Decides.{nat_tests}
use Rattle.std.proofs.lemmas.List.{length-drop, get_or-drop, get_or_past, take_rest}
use Rattle.std.proofs.lemmas.Str.{IsCharBoundary-after_ascii}
use Rattle.ci_expr.specs.Prelude.{ExprCode, X2, X3, ExprFault, Gives, Kind, Name, Text, Null, Unequal, Match, Mismatch, And, Or, word_length, until, escapes, body_length}
use Rattle.ci_expr.specs.Prelude.{name_front, text_by, pattern_by, null_front, lexeme, starts_word, is_word, AreWord, EndsWord, Lacks, IsMark, IsBody, empty, plain, pair, IsFlag}
use Rattle.ci_expr.specs.Prelude.{Spells, IsFront, StaysOpen, quote, pattern}
use Rattle.ci_expr.specs.declared.token.Kind.TheVariants.{Equal, Pattern}

abbrev pub Front : Type 0
Front = Result (Kind × ℕ) ExprCode

-- X2, or X3 where something stays open
abbrev pub IsFrontFault : List ℕ → ExprCode → Type 0
IsFrontFault bs X2 = Unit {0}
IsFrontFault bs X3 = StaysOpen bs
IsFrontFault bs _ = ⊥

-- a token stands at the front, or such a fault
abbrev pub Fits : List ℕ → Front → Type 0
Fits bs (Ok x) = IsFront bs x
Fits bs (Err x) = IsFrontFault bs x

-- X2 where a test fails
where-true : (bs : List ℕ) (t : Bool) (r : Front) → (t ≡ true → Fits bs r) → Fits bs (cond t r (Err X2))
where-true bs t r h = cond_both t r (Err X2) (Fits bs) h (λ _. tt)

-- ---- words
record HasWord (bs : List ℕ) (n : ℕ) : Type 0 where
  pub le : n ≤ length bs
  pub all : AreWord (take n bs)
  pub ends : EndsWord (drop n bs)

words : (bs : List ℕ) → HasWord bs (word_length bs)
words [] = record { le = omega arith; all = tt; ends = tt }
words (b ∷ bs) = let w = words bs in cond_both (is_word b) (suc (word_length bs)) 0 (HasWord (b ∷ bs))
    (λ e. record { le = omega (arith, w.le); all = (e, w.all); ends = w.ends })
    (λ e. record { le = omega arith; all = tt; ends = e })

pub start-word : (b : ℕ) → starts_word b ≡ true → is_word b ≡ true
start-word b e = ap (λ t. t || (nat_le 48 b && nat_le b 57)) e

name-fits : (bs : List ℕ) → Fits (36 ∷ bs) (name_front bs)
name-fits [] = tt
name-fits (c ∷ cs) = let w = words cs in where-true (36 ∷ c ∷ cs) (starts_word c) _
    (λ e. subst (λ t. IsFront (36 ∷ c ∷ cs) (Name, suc (cond t (suc (word_length cs)) 0))) (sym (start-word c e))
    (omega (arith, w.le), (c, take (word_length cs) cs, refl, e, w.all, w.ends)))

-- ---- texts
abbrev IsUntil : ℕ → List ℕ → Option ℕ → Type 0
IsUntil q bs None = Lacks q bs
IsUntil q bs (Some n) = (n < length bs) × (take (suc n) bs ≡ take n bs ++ q ∷ []) × Lacks q (take n bs)

until-is : (q : ℕ) (bs : List ℕ) → IsUntil q bs (until q bs)
until-is q [] = tt
until-is q (b ∷ bs) = cond_both (b == q) (Some 0) (option_map suc (until q bs)) (IsUntil q (b ∷ bs))
    (λ is. (omega arith, ap (λ y. y ∷ []) (eqb-true b q is), tt))
    (λ other. more other (until q bs) (until-is q bs))
  where
    more : (b == q) ≡ false → (o : Option ℕ) → IsUntil q bs o → IsUntil q (b ∷ bs) (option_map suc o)
    more other None lacks = (other, lacks)
    more other (Some n) (lt, cut, lacks) = (omega (arith, lt), ap (λ ys. b ∷ ys) cut, (other, lacks))

text-fits : (q : ℕ) (bs : List ℕ) → IsMark q → Fits (q ∷ bs) (text_by (until q bs))
text-fits q bs mark = by-end (until q bs) (until-is q bs)
  where
    by-end : (o : Option ℕ) → IsUntil q bs o → Fits (q ∷ bs) (text_by o)
    by-end None lacks = quote q bs mark lacks
    by-end (Some n) (lt, cut, lacks) = (omega (arith, lt), (q, take n bs, ap (λ ys. q ∷ ys) cut, mark, lacks))

-- ---- patterns
abbrev IsRest : Bool → List ℕ → Type 0
IsRest true bs = IsBody (92 ∷ bs)
IsRest false bs = IsBody bs

abbrev pub IsEnd : Bool → List ℕ → Option ℕ → Type 0
IsEnd escaped bs None = Unit {0}
IsEnd escaped bs (Some n) = (n < length bs) × (take (suc n) bs ≡ take n bs ++ 47 ∷ []) × IsRest escaped (take n bs)

rest-more : (b : ℕ) (bs : List ℕ) (t : Bool) → (b == 92) ≡ t → (b == 47) ≡ false → IsRest t bs → IsBody (b ∷ bs)
rest-more b bs true e other r = subst (λ y. IsBody (y ∷ bs)) (sym (eqb-true b 92 e)) r
rest-more b bs false e other r = plain b bs other e r

end-more : (e f : Bool) (b : ℕ) (bs : List ℕ) → ((ys : List ℕ) → IsRest e ys → IsRest f (b ∷ ys)) → (o : Option ℕ) → IsEnd e bs o → IsEnd f (b ∷ bs) (option_map suc o)
end-more e f b bs rest None w = tt
end-more e f b bs rest (Some n) (lt, cut, body) = (omega (arith, lt), ap (λ ys. b ∷ ys) cut, rest (take n bs) body)

pub body-is : (escaped : Bool) (bs : List ℕ) → IsEnd escaped bs (body_length escaped bs)
body-is escaped [] = tt
body-is true (b ∷ bs) = end-more false true b bs (λ ys w. pair b ys w) (body_length false bs) (body-is false bs)
body-is false (b ∷ bs) = cond_both (b == 47) (Some 0) (option_map suc (body_length (b == 92) bs)) (IsEnd false (b ∷ bs))
    (λ is. (omega arith, ap (λ y. y ∷ []) (eqb-true b 47 is), empty))
    (λ other. end-more (b == 92) false b bs (λ ys w. rest-more b ys (b == 92) refl other w) (body_length (b == 92) bs) (body-is (b == 92) bs))

pub body-length-at : (body rest : List ℕ) → IsBody body → body_length false (body ++ 47 ∷ rest) ≡ Some (length body)
body-length-at _ rest empty = refl
body-length-at _ rest (plain b bs slash back h) =
    cond-false (b == 47) (Some 0) (option_map suc (body_length (escapes false b) (bs ++ 47 ∷ rest))) slash
    ∙ ap (λ (t : Bool). option_map suc (body_length t (bs ++ 47 ∷ rest))) back
    ∙ ap (option_map suc) (body-length-at bs rest h)
body-length-at _ rest (pair b bs h) = ap (λ o. option_map suc (option_map suc o)) (body-length-at bs rest h)

pub within : (bs : List ℕ) (n b : ℕ) → get_or bs n 0 ≡ b → 0 < b → n < length bs
within bs n b e lt = ⊎_elim (λ (h : n < length bs). h) (λ (le : length bs ≤ n). absurd (omega (arith, get_or_past bs n 0 le, e, lt))) (cases_lt n (length bs))

-- what a test of the byte at a place says of the bytes from there on
from-place : (P : List ℕ → Type 0) (test : ℕ → Bool) → P [] → ((b : ℕ) (bs : List ℕ) → test b ≡ false → P (b ∷ bs)) → (bs : List ℕ) (n : ℕ) → test (get_or bs n 0) ≡ false
    → P (drop n bs)
from-place P test none some [] zero e = none
from-place P test none some [] (suc n) e = none
from-place P test none some (b ∷ bs) zero e = some b bs e
from-place P test none some (b ∷ bs) (suc n) e = from-place P test none some bs n e

ends-none : (bs : List ℕ) (n : ℕ) → is_word (get_or bs n 0) ≡ false → EndsWord (drop n bs)
ends-none = from-place EndsWord is_word tt (λ b bs e. e)

pattern-fits : (bs : List ℕ) → Fits (47 ∷ bs) (pattern_by bs (body_length false bs))
pattern-fits bs = by-end (body_length false bs) refl (body-is false bs)
  where
    by-end : (o : Option ℕ) → body_length false bs ≡ o → IsEnd false bs o → Fits (47 ∷ bs) (pattern_by bs o)
    by-end None e w = pattern bs (λ body rest is h. let k = body-length-at body rest h in let f = ap (body_length false) is in cc)
    by-end (Some n) e (lt, cut, body) =
        let start : 47 ∷ take (suc n) bs ≡ 47 ∷ (take n bs ++ 47 ∷ []) = ap (λ ys. 47 ∷ ys) cut in
        cond_both (get_or bs (n + 1) 0 == 105) (cond (is_word (get_or bs (n + 2) 0)) (Err X2) (Ok (Pattern, suc (suc (suc n))))) (Ok (Pattern, suc (suc n))) (Fits (47 ∷ bs))
        (λ flag. cond_both (is_word (get_or bs (n + 2) 0)) (Err X2) (Ok (Pattern, suc (suc (suc n)))) (Fits (47 ∷ bs)) (λ _. tt)
        (λ ends. let one : n + 1 ≡ suc n = omega arith in
        let two : n + 2 ≡ suc (suc n) = omega arith in
        let f : get_or bs (suc n) 0 ≡ 105 = rw one at (eqb-true _ 105 flag) in
        let past : suc n < length bs = within bs (suc n) 105 f (omega arith) in
        let whole : take (suc (suc n)) bs ≡ take n bs ++ 47 ∷ 105 ∷ [] = rw (take-suc bs (suc n) 0 past, cut, f, append_assoc) refl in
        (omega (arith, past), (take n bs, 105 ∷ [], ap (λ ys. 47 ∷ ys) whole, body, (refl, ends-none bs (suc (suc n)) (rw two at ends))))))
        (λ other. let one : n + 1 ≡ suc n = omega arith in
        (omega (arith, lt), (take n bs, [], start, body, from-place (IsFlag []) (λ b. b == 105) tt (λ b bs e. e) bs (suc n) (rw one at other))))

-- ---- the others
null-fits : (bs : List ℕ) → Fits (110 ∷ bs) (null_front (110 ∷ bs))
null-fits bs =
    where-true (110 ∷ bs) (get_or bs 0 0 == 117) _ (λ u. where-true (110 ∷ bs) (get_or bs 1 0 == 108) _ (λ l. where-true (110 ∷ bs) (get_or bs 2 0 == 108) _ (λ m.
    cond_both (is_word (get_or bs 3 0)) (Err X2) (Ok (Null, 4)) (Fits (110 ∷ bs)) (λ _. tt) (λ ends. spelled bs (eqb-true _ 117 u) (eqb-true _ 108 l) (eqb-true _ 108 m) ends))))
  where
    spelled : (cs : List ℕ) → get_or cs 0 0 ≡ 117 → get_or cs 1 0 ≡ 108 → get_or cs 2 0 ≡ 108 → is_word (get_or cs 3 0) ≡ false → IsFront (110 ∷ cs) (Null, 4)
    spelled (c ∷ d ∷ f ∷ rest) p q r ends = (omega arith, (rw (p, q, r) refl, ends-none rest 0 ends))
    spelled _ p q r ends = absurd (omega (arith, p, q, r))

two-fits : (k : Kind) (f g : ℕ) (bs : List ℕ) (s : Front) → 0 < g → ((rest : List ℕ) → Spells k (f ∷ g ∷ []) rest) → Fits (f ∷ bs) s
    → Fits (f ∷ bs) (cond (get_or bs 0 0 == g) (Ok (k, 2)) s)
two-fits k f g bs s some spell h = cond_both (get_or bs 0 0 == g) (Ok (k, 2)) s (Fits (f ∷ bs)) (λ e. by-next bs (eqb-true _ g e)) (λ _. h)
  where
    by-next : (cs : List ℕ) → get_or cs 0 0 ≡ g → IsFront (f ∷ cs) (k, 2)
    by-next [] e = absurd (omega (arith, e, some))
    by-next (c ∷ cs) e = (omega arith, subst (λ x. Spells k (f ∷ x ∷ []) cs) (sym e) (spell cs))

pub front-fits : (bs : List ℕ) → Fits bs (lexeme bs)
front-fits [] = tt
front-fits (b ∷ bs) =
    at 36 _ _ (name-fits bs)
    (at 34 _ _ (text-fits 34 bs refl)
    (at 39 _ _ (text-fits 39 bs refl)
    (at 47 _ _ (pattern-fits bs)
    (at 110 _ _ (null-fits bs)
    (at 40 _ _ (omega arith, refl)
    (at 41 _ _ (omega arith, refl)
    (at 61 _ _ (two-fits Equal 61 61 bs _ (omega arith) (λ _. refl) (two-fits Match 61 126 bs _ (omega arith) (λ _. refl) tt))
    (at 33 _ _ (two-fits Unequal 33 61 bs _ (omega arith) (λ _. refl) (two-fits Mismatch 33 126 bs _ (omega arith) (λ _. refl) tt))
    (at 38 _ _ (two-fits And 38 38 bs _ (omega arith) (λ _. refl) tt)
    (at 124 _ _ (two-fits Or 124 124 bs _ (omega arith) (λ _. refl) tt) tt))))))))))
  where
    at : (m : ℕ) (r s : Front) → Fits (m ∷ bs) r → Fits (b ∷ bs) s → Fits (b ∷ bs) (cond (b == m) r s)
    at m r s here other = cond_both (b == m) r s (Fits (b ∷ bs)) (λ e. subst (λ x. Fits (x ∷ bs) r) (sym (eqb-true b m e)) here) (λ _. other)

pub front-of : (bs : List ℕ) (r : Result (Kind × ℕ) ExprFault) → Gives (λ x. x) r (lexeme bs) → IfOk r (IsFront bs)
front-of bs (Ok x) h = subst (Fits bs) h (front-fits bs)
front-of bs (Err e) h = tt

-- ---- tokens begin and end with ASCII
abbrev pub EndsLow : List ℕ → Type 0
EndsLow [] = ⊥
EndsLow (b ∷ []) = b < 128
EndsLow (b ∷ c ∷ cs) = EndsLow (c ∷ cs)

abbrev pub BeginsLow : List ℕ → Type 0
BeginsLow [] = ⊥
BeginsLow (b ∷ bs) = b < 128

word-low : (b : ℕ) → is_word b ≡ true → b < 128
word-low b e = grind (arith, nat_tests)

words-low : (b : ℕ) (bs : List ℕ) → b < 128 → AreWord bs → EndsLow (b ∷ bs)
words-low b [] lt all = lt
words-low b (c ∷ cs) lt all = words-low c cs (word-low c all.0) all.1

ends-snoc : (xs : List ℕ) (q : ℕ) → q < 128 → EndsLow (xs ++ q ∷ [])
ends-snoc [] q lt = lt
ends-snoc (b ∷ []) q lt = lt
ends-snoc (b ∷ c ∷ cs) q lt = ends-snoc (c ∷ cs) q lt

mark-low : (q : ℕ) → IsMark q → q < 128
mark-low q e = grind (arith, nat_tests)

abbrev pub IsLow : List ℕ → Type 0
IsLow s = BeginsLow s × EndsLow s

flag-low : (body flag rest : List ℕ) → IsFlag flag rest → EndsLow (47 ∷ (body ++ 47 ∷ flag))
flag-low body [] rest h = ends-snoc (47 ∷ body) 47 (omega arith)
flag-low body (f ∷ []) rest h = subst (λ ys. EndsLow (47 ∷ ys)) (append_assoc body (47 ∷ []) (f ∷ [])) (ends-snoc (47 ∷ (body ++ 47 ∷ [])) f (omega (arith, h.0)))
flag-low body (f ∷ g ∷ fs) rest h = absurd h

pub slice-low : (k : Kind) (s rest : List ℕ) → Spells k s rest → IsLow s
slice-low Name s rest (b, bs, e, start, all, ends) = subst IsLow (sym e) (omega arith, words-low b bs (word-low b (start-word b start)) all)
slice-low Text s rest (q, body, e, mark, lacks) = subst IsLow (sym e) (mark-low q mark, ends-snoc (q ∷ body) q (mark-low q mark))
slice-low Pattern s rest (body, flag, e, is, fits) = subst IsLow (sym e) (omega arith, flag-low body flag rest fits)
slice-low Null s rest h = subst IsLow (sym h.0) (omega arith, omega arith)
slice-low _ s rest h = subst IsLow (sym h) (omega arith, omega arith)

low-at : (bs : List ℕ) (n : ℕ) → EndsLow (take (suc n) bs) → get_or bs n 0 < 128
low-at [] n h = absurd h
low-at (b ∷ bs) zero h = h
low-at (b ∷ []) (suc n) h = omega arith
low-at (b ∷ c ∷ bs) (suc n) h = low-at (c ∷ bs) n h

pub record Bounds (bs : List ℕ) (n : ℕ) : Type 0 where
  pub some : 0 < n
  pub within : n ≤ length bs
  pub first : get_or bs 0 0 < 128
  pub last : (m : ℕ) → n ≡ suc m → get_or bs m 0 < 128

low-first : (bs : List ℕ) (n : ℕ) → BeginsLow (take n bs) → (0 < n) × (get_or bs 0 0 < 128)
low-first bs zero h = absurd h
low-first [] (suc n) h = absurd h
low-first (b ∷ bs) (suc n) h = (omega arith, h)

pub bounds : (bs : List ℕ) (x : Kind × ℕ) → IsFront bs x → Bounds bs x.1
bounds bs x h =
    let low = slice-low x.0 _ _ h.1 in
    let first = low-first bs x.1 low.0 in
    record { some = first.0; within = h.0; first = first.1; last = λ m e. low-at bs m (subst (λ k. EndsLow (take k bs)) e low.1) }

pub starts-cut : (text : List ℕ) (at n : ℕ) → at < length text → Bounds (drop at text) n → IsCharBoundary text at
starts-cut text at n lt b =
    let zero-on : at + 0 ≡ at = omega arith in
    let low : get_or text at 0 < 128 = rw (get_or-drop at text 0 0, zero-on) at b.first in
    (omega (arith, lt), λ l hi. omega (arith, hi, low))

pub fits-in : (text : List ℕ) (at n : ℕ) → at < length text → Bounds (drop at text) n → at + n ≤ length text
fits-in text at n lt b = omega (arith, lt, b.within, length-drop at text)

pub ends-cut : (text : List ℕ) (at n : ℕ) → IsUtf8 text → at < length text → Bounds (drop at text) n → IsCharBoundary text (at + n)
ends-cut text at zero utf8 lt b = absurd (omega (arith, b.some))
ends-cut text at (suc m) utf8 lt b =
    let le : at + suc m ≤ length text = fits-in text at (suc m) lt b in
    let low : get_or text (at + m) 0 < 128 = rw (get_or-drop at text m 0) at (b.last m refl) in
    subst (IsCharBoundary text) (omega arith) (IsCharBoundary-after_ascii text (at + m) utf8 (omega (arith, le)) low)

-- what is left of a slice from a place on
pub rest-bounds : (bs text : List ℕ) (at : ℕ) (x : Kind × ℕ) → bs ≡ text → IsFront (take (length bs - at) (drop at bs)) x → Bounds (drop at text) x.1
rest-bounds bs text at x same h = bounds (drop at text) x (subst (λ ys. IsFront ys x) (take_rest bs at ∙ ap (drop at) same) h)
