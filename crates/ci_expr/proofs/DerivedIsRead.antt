-- What the grammar derives is read from the left, where nothing follows that would make it longer.
use Rattle.std.proofs.Common.{◌≡◌, ℕ, zero, suc, ◌<◌, ◌≤◌, List, ◌∷◌, length, map, Option, None, Some, Ok, Err, sym, ◌∙◌, ap, arith, Bool, true, false, [], ◌++◌, refl, subst}
use Rattle.std.proofs.Common.{append_assoc}
use Rattle.std.proofs.lemmas.List.{length-map, length-append}
use Rattle.std.proofs.lemmas.Bool.{not-true}
use Rattle.ci_expr.specs.Prelude.{ExprFault, Kind, Token, ◌>>=◌, Join, Formula, joined, Level, chain, or, test, part, sign, Read, behind, behind_byte, joined_by, test_by}
use Rattle.ci_expr.specs.Prelude.{variable_by, descend, height, reach, Fails, token_view, Operand, group, present, equal, found, comparing, matching, IsNamed, IsOperand}
use Rattle.ci_expr.specs.Prelude.{IsPatternOf, Derives, single, several, in_group, alone, compared, matched, compared_by, matched_from, sign_by, named_from}
use Rattle.ci_expr.specs.declared.token.Token as rust
use Rattle.ci_expr.specs.Descent.{closed}
use Rattle.ci_expr.proofs.Parts.{is_kind-at, behind-at, is_sign, ends, Ends, ends-part, none-behind, sign-ends, behind_byte-at, operand_by-at, pattern_of-at}

-- this is read, or it fails so, with each number of steps that is enough
abbrev pub Descends : Level → List Token → Read → Type 0
Descends l ts r = (n : ℕ) → reach l ts ≤ n → descend n l ts ≡ r

abbrev pub DescentFails : ExprFault → Level → List Token → Type 0
DescentFails e l ts = (n : ℕ) → reach l ts ≤ n → Fails e (descend n l ts)

pub shorter : (xs ys : List rust.Token) → length xs < length ys → length (map token_view xs) < length (map token_view ys)
shorter xs ys lt = omega (arith, lt, length-map xs token_view, length-map ys token_view)

-- ---- formulas that are joined
abbrev after_part : Join → ℕ → Read → Read
after_part j n r = r >>= λ x. joined_by j (descend n (chain j)) x.0 x.1 (behind (sign j) x.1)

abbrev pub with_first : Join → Formula → Read → Read
with_first j f r = r >>= λ y. Ok (joined j f y.0, y.1)

part-below : (j : Join) → height (part j) < height (chain j)
part-below Join.Or = omega arith
part-below Join.And = omega arith

pub part-fails : (j : Join) (ts : List Token) (e : ExprFault) → DescentFails e (part j) ts → DescentFails e (chain j) ts
part-fails j ts ExprFault.Memory h n le = tt
part-fails j ts (ExprFault.Fault x) h zero le = absurd (omega (arith, le, part-below j))
part-fails j ts (ExprFault.Fault x) h (suc n) le = ap (after_part j n) (h n (omega (arith, le, part-below j)))

pub part-alone : (j : Join) (ts rest : List Token) (f : Formula) → Descends (part j) ts (Ok (f, rest)) → None ≡ behind (sign j) rest → Descends (chain j) ts (Ok (f, rest))
part-alone j ts rest f h none zero le = absurd (omega (arith, le, part-below j))
part-alone j ts rest f h none (suc n) le =
    ap (after_part j n) (h n (omega (arith, le, part-below j))) ∙ ap (joined_by j (descend n (chain j)) f rest) (sym none)

pub joined-reads : (j : Join) (ts rest more : List Token) (f : Formula) (r : Read) → Descends (part j) ts (Ok (f, rest)) → Some more ≡ behind (sign j) rest
    → length more < length ts → Descends (chain j) more r → Descends (chain j) ts (with_first j f r)
joined-reads j ts rest more f r h some lt k zero le = absurd (omega (arith, le, part-below j))
joined-reads j ts rest more f r h some lt k (suc n) le =
    ap (after_part j n) (h n (omega (arith, le, part-below j))) ∙ ap (joined_by j (descend n (chain j)) f rest) (sym some) ∙ ap (with_first j f) (k n (omega (arith, le, lt)))

pub joined-fails : (j : Join) (ts rest more : List Token) (f : Formula) (e : ExprFault) → Descends (part j) ts (Ok (f, rest)) → Some more ≡ behind (sign j) rest
    → length more < length ts → DescentFails e (chain j) more → DescentFails e (chain j) ts
joined-fails j ts rest more f ExprFault.Memory h some lt k n le = tt
joined-fails j ts rest more f (ExprFault.Fault x) h some lt k n le = joined-reads j ts rest more f (Err x) h some lt k n le

-- ---- test
abbrev group_after : Read → Read
group_after r = r >>= λ x. closed x.0 (behind Kind.Right x.1)

group-reads : (ts rest : List Token) (t : Token) (r : Read) → ts ≡ t ∷ rest → t.kind ≡ Kind.Left → Descends or rest r → Descends test ts (group_after r)
group-reads ts rest t r is left h zero le = absurd (omega (arith, le))
group-reads ts rest t r is left h (suc n) le =
    ap (descend (suc n) test) is ∙ ap (test_by (descend n or) t.slice rest) left ∙ ap group_after (h n (omega (arith, le, ap length is)))

pub group-fails : (ts rest : List Token) (t : Token) (e : ExprFault) → ts ≡ t ∷ rest → t.kind ≡ Kind.Left → DescentFails e or rest → DescentFails e test ts
group-fails ts rest t ExprFault.Memory is left h n le = tt
group-fails ts rest t (ExprFault.Fault x) is left h n le = group-reads ts rest t (Err x) is left h n le

pub group-by : (ts rest after : List Token) (t : Token) (f : Formula) (o : Option (List Token)) → ts ≡ t ∷ rest → t.kind ≡ Kind.Left → Descends or rest (Ok (f, after))
    → o ≡ behind Kind.Right after → Descends test ts (closed f o)
group-by ts rest after t f o is left h right n le = group-reads ts rest t (Ok (f, after)) is left h n le ∙ ap (closed f) (sym right)

pub name-by : (ts rest : List Token) (t : Token) (o : Option (List ℕ)) → ts ≡ t ∷ rest → t.kind ≡ Kind.Name → o ≡ behind_byte 36 t.slice → Descends test ts (variable_by rest o)
name-by ts rest t o is name e zero le = absurd (omega (arith, le))
name-by ts rest t o is name e (suc n) le = ap (descend (suc n) test) is ∙ ap (test_by (descend n or) t.slice rest) name ∙ ap (variable_by rest) (sym e)

-- ---- what is derived
-- the tokens are read as the formula, whatever follows that doesn't make it longer
abbrev pub IsRead : Level → List Token → Formula → Type 0
IsRead l ts f = (rest : List Token) → Ends l rest → Descends l (ts ++ rest) (Ok (f, rest))

sign-none : (name : List ℕ) (t : Token) (ts : List Token) (k : Kind) → is_sign k ≡ false → sign_by name t ts k ≡ Ok (present name, t ∷ ts)
sign-none name t ts Kind.Equal e = absurd cc
sign-none name t ts Kind.Unequal e = absurd cc
sign-none name t ts Kind.Match e = absurd cc
sign-none name t ts Kind.Mismatch e = absurd cc
sign-none name t ts _ e = refl

named-alone : (name : List ℕ) (rest : List Token) → Ends test rest → named_from name rest ≡ Ok (present name, rest)
named-alone name [] h = refl
named-alone name (t ∷ ts) h = sign-none name t ts t.kind (not-true (is_sign t.kind) h)

named-compared : (negated : Bool) (name : List ℕ) (c w : Token) (operand : Operand) (rest : List Token) → c.kind ≡ comparing negated → IsOperand operand w
    → named_from name (c ∷ w ∷ rest) ≡ Ok (equal negated name operand, rest)
named-compared false name c w operand rest e h = ap (sign_by name c (w ∷ rest)) e ∙ ap (compared_by false name rest) (operand_by-at w operand h)
named-compared true name c w operand rest e h = ap (sign_by name c (w ∷ rest)) e ∙ ap (compared_by true name rest) (operand_by-at w operand h)

matched-by : (negated : Bool) (name : List ℕ) (w : Token) (source : List ℕ) (insensitive : Bool) (rest : List Token) → IsPatternOf source insensitive w
    → matched_from negated name (w ∷ rest) ≡ Ok (found negated name source insensitive, rest)
matched-by negated name w source insensitive rest (is, (body, spelled, source-is)) =
    rw (is_kind-at w.kind Kind.Pattern is, pattern_of-at w body insensitive spelled, source-is) refl

named-matched : (negated : Bool) (name : List ℕ) (c w : Token) (source : List ℕ) (insensitive : Bool) (rest : List Token) → c.kind ≡ matching negated
    → IsPatternOf source insensitive w
    → named_from name (c ∷ w ∷ rest) ≡ Ok (found negated name source insensitive, rest)
named-matched false name c w source insensitive rest e h = ap (sign_by name c (w ∷ rest)) e ∙ matched-by false name w source insensitive rest h
named-matched true name c w source insensitive rest e h = ap (sign_by name c (w ∷ rest)) e ∙ matched-by true name w source insensitive rest h

named-read : (v : Token) (name : List ℕ) (more rest : List Token) (f : Formula) → IsNamed name v → named_from name more ≡ Ok (f, rest) → Descends test (v ∷ more) (Ok (f, rest))
named-read v name more rest f (is, spelled) e n le = name-by (v ∷ more) more v (Some name) refl is (sym (ap (behind_byte 36) spelled ∙ behind_byte-at 36 name)) n le ∙ e

joined-read : (j : Join) (left : List Token) (t : Token) (right : List Token) (f g : Formula) → IsRead (part j) left f → t.kind ≡ sign j → IsRead (chain j) right g
    → IsRead (chain j) (left ++ t ∷ right) (joined j f g)
joined-read j left t right f g a is b rest h =
    let behind : List Token = right ++ rest in
    subst (λ us. Descends (chain j) us (Ok (joined j f g, rest))) (sym (append_assoc left (t ∷ right) rest))
    (joined-reads j (left ++ t ∷ behind) (t ∷ behind) behind f (Ok (g, rest)) (a (t ∷ behind) (ap (ends (part j)) is ∙ sign-ends j)) (behind-at (sign j) t behind is)
    (omega (arith, length-append left (t ∷ behind))) (b rest h))

group-read : (l : Token) (inner : List Token) (r : Token) (f : Formula) → l.kind ≡ Kind.Left → IsRead or inner f → r.kind ≡ Kind.Right
    → IsRead test (l ∷ (inner ++ r ∷ [])) (group f)
group-read l inner r f left a right rest h =
    subst (λ us. Descends test (l ∷ us) (Ok (group f, rest))) (sym (append_assoc inner (r ∷ []) rest))
    (group-by (l ∷ (inner ++ r ∷ rest)) (inner ++ r ∷ rest) (r ∷ rest) l f (Some rest) refl left (a (r ∷ rest) (ap (ends or) right)) (behind-at Kind.Right r rest right))

pub derived-read : (l : Level) (ts : List Token) (f : Formula) → Derives l ts f → IsRead l ts f
derived-read _ _ _ (single j ts f d) = λ rest h. part-alone j (ts ++ rest) rest f (derived-read (part j) ts f d rest (ends-part j rest h)) (none-behind j rest h)
derived-read _ _ _ (several j left t right ts f g a is b e) =
    subst (λ us. IsRead (chain j) us (joined j f g)) (sym e) (joined-read j left t right f g (derived-read (part j) left f a) is (derived-read (chain j) right g b))
derived-read _ _ _ (in_group l inner r ts f left a right e) =
    subst (λ us. IsRead test us (group f)) (sym e) (group-read l inner r f left (derived-read or inner f a) right)
derived-read _ _ _ (alone v name named) = λ rest h. named-read v name rest rest (present name) named (named-alone name rest h)
derived-read _ _ _ (compared v c w negated name operand named sign is) = λ rest h.
    named-read v name (c ∷ w ∷ rest) rest (equal negated name operand) named (named-compared negated name c w operand rest sign is)
derived-read _ _ _ (matched v c w negated name source insensitive named sign is) = λ rest h.
    named-read v name (c ∷ w ∷ rest) rest (found negated name source insensitive) named (named-matched negated name c w source insensitive rest sign is)
