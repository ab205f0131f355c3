-- What kind a token is of, what it says, and how it is spelled.
use Rattle.std.proofs.Common.{◌≡◌, ℕ, Bool, true, false, cond, List, [], ◌∷◌, Option, None, Some, refl, sym, ◌∙◌, ap, ◌==◌, ◌&&◌, not, zero, suc, ◌-◌, ◌<◌, ◌++◌, length, take}
use Rattle.std.proofs.Common.{get_or, option_map, subst, arith, append_assoc, take-suc, take_all, ◌||◌, chars, option_and_then}
use Rattle.std.proofs.lemmas.Bool.{eqb-true, eq-eqb, and_parts, not-true, cond_both, cond-true, cond-false}
use Rattle.std.proofs.lemmas.List.{length-append, get_or_push, take_at}
use Rattle.std.proofs.lemmas.Option.{cond_some, option_and_then_some}
use Rattle.ci_expr.specs.Prelude.{Kind, Name, Text, Null, Unequal, Match, Mismatch, And, Or, Left, Right, Token, Join, Level, chain, test, part, sign, place, is_kind, behind}
use Rattle.ci_expr.specs.Prelude.{IsMark, Operand, null, text, variable, IsOperand, IsPatternOf, flag_of, source_of, behind_byte, before_byte, text_of, flagged, body_by, body_of}
use Rattle.ci_expr.specs.Prelude.{pattern_of, operand_by}
use Rattle.ci_expr.specs.declared.token.Kind.TheVariants.{Equal, Pattern}
use Rattle.ci_expr.proofs.Fronts.{within}

-- ---- kinds, told apart by their places
abbrev kind_at : ℕ → Kind
kind_at n =
    cond (n == 0) Name (cond (n == 1) Text (cond (n == 2) Null (cond (n == 3) Equal (cond (n == 4) Unequal (cond (n == 5) Match
    (cond (n == 6) Mismatch (cond (n == 7) And (cond (n == 8) Or (cond (n == 9) Left (cond (n == 10) Right Pattern))))))))))

kind_at-place : (k : Kind) → kind_at (place k) ≡ k
kind_at-place Name = refl
kind_at-place _ = refl

pub is_kind-true : (a b : Kind) → is_kind a b ≡ true → a ≡ b
is_kind-true a b e = sym (kind_at-place a) ∙ ap kind_at (eqb-true (place a) (place b) e) ∙ kind_at-place b

pub is_kind-at : (a b : Kind) → a ≡ b → is_kind a b ≡ true
is_kind-at a b e = eq-eqb (place a) (place b) (ap place e)

-- a token of a kind, and what is behind it
pub record Headed (k : Kind) (ts more : List Token) : Type 0 where
  pub head : Token
  pub whole : ts ≡ head ∷ more
  pub is : head.kind ≡ k

-- what is behind a token of this kind, if the list begins with one
abbrev pub IsBehind : Kind → List Token → Option (List Token) → Type 0
IsBehind k ts None = Unit {0}
IsBehind k ts (Some more) = Headed k ts more

pub behind-is : (k : Kind) (ts : List Token) → IsBehind k ts (behind k ts)
behind-is k [] = tt
behind-is k (t ∷ ts) = cond_both (is_kind t.kind k) (Some ts) None (IsBehind k (t ∷ ts)) (λ e. record { head = t; whole = refl; is = is_kind-true t.kind k e }) (λ _. tt)

pub behind-at : (k : Kind) (t : Token) (ts : List Token) → t.kind ≡ k → Some ts ≡ behind k (t ∷ ts)
behind-at k t ts e = sym (cond-true (is_kind t.kind k) (Some ts) None (is_kind-at t.kind k e))

-- ---- what may follow a formula of a level
abbrev pub is_sign : Kind → Bool
is_sign Equal = true
is_sign Unequal = true
is_sign Match = true
is_sign Mismatch = true
is_sign _ = false

abbrev pub ends : Level → Kind → Bool
ends test k = not (is_sign k)
ends (chain Join.And) k = not (is_sign k) && not (is_kind k And)
ends (chain Join.Or) k = (not (is_sign k) && not (is_kind k And)) && not (is_kind k Or)

abbrev pub Ends : Level → List Token → Type 0
Ends l [] = Unit {0}
Ends l (t ∷ ts) = ends l t.kind ≡ true

ends-below : (j : Join) (k : Kind) → ends (chain j) k ≡ true → (ends (part j) k ≡ true) × (not (is_kind k (sign j)) ≡ true)
ends-below Join.Or k = and_parts (ends (part Join.Or) k) (not (is_kind k Or))
ends-below Join.And k = and_parts (ends test k) (not (is_kind k And))

pub ends-part : (j : Join) (ts : List Token) → Ends (chain j) ts → Ends (part j) ts
ends-part j [] h = tt
ends-part j (t ∷ ts) h = (ends-below j t.kind h).0

pub none-behind : (j : Join) (ts : List Token) → Ends (chain j) ts → None ≡ behind (sign j) ts
none-behind j [] h = refl
none-behind j (t ∷ ts) h = sym (cond-false (is_kind t.kind (sign j)) (Some ts) None (not-true (is_kind t.kind (sign j)) (ends-below j t.kind h).1))

pub sign-ends : (j : Join) → ends (part j) (sign j) ≡ true
sign-ends Join.Or = refl
sign-ends Join.And = refl

-- where this was made of what is there
pub mapped : {A B : Type 0} (f : A → B) (o : Option A) (y : B) → option_map f o ≡ Some y → (x : A) × (o ≡ Some x) × (f x ≡ y)
mapped f None y e = absurd cc
mapped f (Some x) y e = (x, refl, cc)

-- ---- the first byte
pub behind_byte-is : (q : ℕ) (s n : List ℕ) → 0 < q → behind_byte q s ≡ Some n → s ≡ q ∷ n
behind_byte-is q [] n some e = let w = cond_some (0 == q) [] n e in absurd (omega (arith, some, eqb-true 0 q w.0))
behind_byte-is q (b ∷ bs) n some e = let w = cond_some (b == q) bs n e in ap (λ x. x ∷ bs) (eqb-true b q w.0) ∙ ap (λ xs. q ∷ xs) w.1

pub behind_byte-at : (q : ℕ) (n : List ℕ) → behind_byte q (q ∷ n) ≡ Some n
behind_byte-at q n = cond-true (q == q) (Some n) None (eq-eqb q q refl)

-- ---- the last byte
last-cut : (s : List ℕ) (q m : ℕ) → length s - 1 ≡ m → get_or s m 0 ≡ q → 0 < q → s ≡ take m s ++ q ∷ []
last-cut s q m e is some =
    let past : m < length s = within s m q is some in
    sym (take_all (suc m) s (omega (arith, e))) ∙ take-suc s m 0 past ∙ ap (λ x. take m s ++ x ∷ []) is

before_byte-is : (q : ℕ) (s n : List ℕ) → 0 < q → before_byte q s ≡ Some n → s ≡ n ++ q ∷ []
before_byte-is q s n some e =
    let w = cond_some (get_or s (length s - 1) 0 == q) (take (length s - 1) s) n e in
    last-cut s q (length s - 1) refl (eqb-true _ q w.0) some ∙ ap (λ xs. xs ++ q ∷ []) w.1

before_byte-by : (q : ℕ) (bs : List ℕ) (p : ℕ) → before_byte q (bs ++ p ∷ []) ≡ cond (p == q) (Some bs) None
before_byte-by q bs p =
    let end : length (bs ++ p ∷ []) - 1 ≡ length bs = omega (arith, length-append bs (p ∷ [])) in
    rw (end, get_or_push bs p 0 (length bs) refl, take_at bs (p ∷ []) (length bs) refl) refl

pub before_byte-at : (q : ℕ) (bs : List ℕ) → before_byte q (bs ++ q ∷ []) ≡ Some bs
before_byte-at q bs = before_byte-by q bs q ∙ cond-true (q == q) (Some bs) None (eq-eqb q q refl)

-- ---- texts
mark-some : (q : ℕ) → IsMark q → 0 < q
mark-some zero e = absurd cc
mark-some (suc q) e = omega arith

text_of-is : (s bs : List ℕ) → text_of s ≡ Some bs → (q : ℕ) × IsMark q × (s ≡ q ∷ (bs ++ q ∷ []))
text_of-is [] bs e = absurd cc
text_of-is (q ∷ s) bs e = marked ((q == 34) || (q == 39)) refl e
  where
    marked : (t : Bool) → ((q == 34) || (q == 39)) ≡ t → cond t (before_byte q s) None ≡ Some bs → (p : ℕ) × IsMark p × (q ∷ s ≡ p ∷ (bs ++ p ∷ []))
    marked true mark h = (q, mark, ap (λ xs. q ∷ xs) (before_byte-is q s bs (mark-some q mark) h))
    marked false mark h = absurd cc

text_of-at : (q : ℕ) (bs : List ℕ) → IsMark q → text_of (q ∷ (bs ++ q ∷ [])) ≡ Some bs
text_of-at q bs mark = cond-true _ (before_byte q (bs ++ q ∷ [])) None mark ∙ before_byte-at q bs

-- ---- operands
pub operand_by-is : (t : Token) (o : Operand) (k : Kind) → t.kind ≡ k → operand_by t.slice k ≡ Some o → IsOperand o t
operand_by-is t o Null e h = let is : null ≡ o = cc in subst (λ p. IsOperand p t) is e
operand_by-is t o Text e h = let w = mapped text (text_of t.slice) o h in subst (λ p. IsOperand p t) w.2 (e, text_of-is t.slice w.0 w.1)
operand_by-is t o Name e h = let w = mapped variable (behind_byte 36 t.slice) o h in subst (λ p. IsOperand p t) w.2 (e, behind_byte-is 36 t.slice w.0 (omega arith) w.1)
operand_by-is t o _ e h = absurd cc

pub operand_by-at : (t : Token) (o : Operand) → IsOperand o t → operand_by t.slice t.kind ≡ Some o
operand_by-at t null h = ap (operand_by t.slice) h
operand_by-at t (text bs) (is, (q, mark, e)) = ap (operand_by t.slice) is ∙ ap (option_map text) (ap text_of e ∙ text_of-at q bs mark)
operand_by-at t (variable name) (is, e) = ap (operand_by t.slice) is ∙ ap (option_map variable) (ap (behind_byte 36) e ∙ behind_byte-at 36 name)

-- ---- patterns
abbrev Body : Type 0
Body = List ℕ × Bool

abbrev IsBodyIn : List ℕ → Body → Type 0
IsBodyIn s p = s ≡ p.0 ++ 47 ∷ flag_of p.1

body_by-is : (s : List ℕ) (p : Body) (m : Option (List ℕ)) → before_byte 105 s ≡ m → body_by s m ≡ Some p → IsBodyIn s p
body_by-is s p None e h = let w = mapped (λ (b : List ℕ). (b, false)) (before_byte 47 s) p h in subst (IsBodyIn s) w.2 (before_byte-is 47 s w.0 (omega arith) w.1)
body_by-is s p (Some cut) e h = let w = mapped (λ (b : List ℕ). (b, true)) (before_byte 47 cut) p h in
    subst (IsBodyIn s) w.2
    (before_byte-is 105 s cut (omega arith) e ∙ ap (λ xs. xs ++ 105 ∷ []) (before_byte-is 47 cut w.0 (omega arith) w.1) ∙ append_assoc w.0 (47 ∷ []) (105 ∷ []))

pub pattern_of-is : (t : Token) (p : Body) → t.kind ≡ Pattern → pattern_of t.slice ≡ Some p → IsPatternOf (source_of (chars p.0)) p.1 t
pattern_of-is t p is h = option_and_then_some body_of (behind_byte 47 t.slice) p h
    (λ s e g. (is, (p.0, behind_byte-is 47 t.slice s (omega arith) e ∙ ap (λ xs. 47 ∷ xs) (body_by-is s p (before_byte 105 s) refl g), refl)))

body_of-at : (b : List ℕ) (i : Bool) → body_of (b ++ 47 ∷ flag_of i) ≡ Some (b, i)
body_of-at b false = ap (body_by (b ++ 47 ∷ [])) (before_byte-by 105 b 47) ∙ ap (flagged false) (before_byte-at 47 b)
body_of-at b true =
    ap body_of (sym (append_assoc b (47 ∷ []) (105 ∷ [])))
    ∙ ap (body_by ((b ++ 47 ∷ []) ++ 105 ∷ [])) (before_byte-at 105 (b ++ 47 ∷ [])) ∙ ap (flagged true) (before_byte-at 47 b)

pub pattern_of-at : (t : Token) (body : List ℕ) (i : Bool) → t.slice ≡ 47 ∷ (body ++ 47 ∷ flag_of i) → pattern_of t.slice ≡ Some (body, i)
pattern_of-at t body i e = ap pattern_of e ∙ ap (option_and_then body_of) (behind_byte-at 47 (body ++ 47 ∷ flag_of i)) ∙ body_of-at body i
