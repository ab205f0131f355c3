-- The formula of a whole list of tokens.
use Rattle.std.proofs.Common.{◌≡◌, ℕ, ◌+◌, ◌-◌, Bool, true, false, List, [], ◌∷◌, ◌++◌, Ok, refl, sym, ◌∙◌, ap, subst, arith, append_assoc, ◌==◌, ◌&&◌, ◌||◌, not}
use Rattle.std.proofs.lemmas.List.{append-nil}
use Rattle.ci_expr.specs.Prelude.{Kind, Join, Token, ◌>>=◌, Operand, null, text, variable, Formula, Level, chain, or, part, sign, IsOperand, Derives, single, several, in_group}
use Rattle.ci_expr.specs.Prelude.{alone, compared, matched, comparing, matching, open_after, closes_none, balances, is_pattern, has_stray, takes_pattern, descend, reach}
use Rattle.ci_expr.specs.Prelude.{formula_from, whole_by, AtMostOneFormula}
use Rattle.ci_expr.proofs.DerivedIsRead.{derived-read}

pub formula_from-derived : (ts : List Token) (f : Formula) → Derives or ts f → formula_from ts ≡ Ok f
formula_from-derived ts f d =
    ap (λ r. r >>= whole_by) (ap (λ us. descend (reach or us) or us) (sym (append-nil ts)) ∙ derived-read or ts f d [] tt (reach or (ts ++ [])) (omega arith))

pub one-formula : AtMostOneFormula
one-formula ts f g a b = let p = formula_from-derived ts f a in let q = formula_from-derived ts g b in cc

-- ---- what is derived balances and has no stray pattern, whatever follows
abbrev pub Orderly : List Token → Type 0
Orderly ts = (n : ℕ) (rest : List Token) → (balances n (ts ++ rest) ≡ balances n rest) × (has_stray false (ts ++ rest) ≡ has_stray false rest)

-- a token of this kind changes nothing of it
abbrev IsCalm : Kind → Type 0
IsCalm k = (n : ℕ) (rest : List Token)
    → ((not (closes_none n k) && balances (open_after n k) rest) ≡ balances n rest) × (((is_pattern k && true) || has_stray (takes_pattern k) rest) ≡ has_stray false rest)

calm : (t : Token) (k : Kind) → t.kind ≡ k → IsCalm k → Orderly (t ∷ [])
calm t k e h = subst IsCalm (sym e) h

join : (xs ys : List Token) → Orderly xs → Orderly ys → Orderly (xs ++ ys)
join xs ys a b n rest = let p = a n (ys ++ rest) in let q = b n rest in rw (append_assoc xs ys rest) (p.0 ∙ q.0, p.1 ∙ q.1)

named : (v : Token) → v.kind ≡ Kind.Name → Orderly (v ∷ [])
named v e = calm v Kind.Name e (λ n ts. (refl, refl))

operand-orderly : (o : Operand) (w : Token) → IsOperand o w → Orderly (w ∷ [])
operand-orderly null w h = calm w Kind.Null h (λ n ts. (refl, refl))
operand-orderly (text bs) w h = calm w Kind.Text h.0 (λ n ts. (refl, refl))
operand-orderly (variable name) w h = named w h.0

comparing-calm : (negated : Bool) → IsCalm (comparing negated)
comparing-calm false n ts = (refl, refl)
comparing-calm true n ts = (refl, refl)

sign-calm : (j : Join) → IsCalm (sign j)
sign-calm Join.Or n ts = (refl, refl)
sign-calm Join.And n ts = (refl, refl)

matching-orderly : (negated : Bool) (c w : Token) → c.kind ≡ matching negated → w.kind ≡ Kind.Pattern → Orderly (c ∷ w ∷ [])
matching-orderly false c w e p n rest = rw (e, p) (refl, refl)
matching-orderly true c w e p n rest = rw (e, p) (refl, refl)

group-orderly : (l : Token) (inner : List Token) (r : Token) → l.kind ≡ Kind.Left → Orderly inner → r.kind ≡ Kind.Right → Orderly (l ∷ (inner ++ r ∷ []))
group-orderly l inner r left a right n rest =
    let h = a (n + 1) (r ∷ rest) in
    let opened : ((n + 1) == 0) ≡ false = grind arith in
    let closed : (n + 1) - 1 ≡ n = omega arith in
    rw (left, append_assoc inner (r ∷ []) rest, h.0, h.1, right, opened, closed) (refl, refl)

derived-orderly : (l : Level) (ts : List Token) (f : Formula) → Derives l ts f → Orderly ts
derived-orderly _ _ _ (single j ts f d) = derived-orderly (part j) ts f d
derived-orderly _ _ _ (several j left t right ts f g a is b e) =
    subst Orderly (sym e) (join left (t ∷ right) (derived-orderly (part j) left f a) (join (t ∷ []) right (calm t (sign j) is (sign-calm j)) (derived-orderly (chain j) right g b)))
derived-orderly _ _ _ (in_group l inner r ts f left a right e) = subst Orderly (sym e) (group-orderly l inner r left (derived-orderly or inner f a) right)
derived-orderly _ _ _ (alone v name is) = named v is.0
derived-orderly _ _ _ (compared v c w negated name operand is sign h) =
    join (v ∷ []) (c ∷ w ∷ []) (named v is.0) (join (c ∷ []) (w ∷ []) (calm c (comparing negated) sign (comparing-calm negated)) (operand-orderly operand w h))
derived-orderly _ _ _ (matched v c w negated name source insensitive is sign h) = join (v ∷ []) (c ∷ w ∷ []) (named v is.0) (matching-orderly negated c w sign h.0)

pub derived-tidy : (ts : List Token) (f : Formula) → Derives or ts f → (balances 0 ts ≡ true) × (has_stray false ts ≡ false)
derived-tidy ts f d = rw (append-nil ts) at (derived-orderly or ts f d 0 [])
