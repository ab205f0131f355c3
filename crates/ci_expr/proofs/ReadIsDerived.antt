-- What is read from the left is what the grammar derives, and nothing else.
use Rattle.std.proofs.Common.{◌≡◌, ℕ, zero, suc, Bool, true, false, List, [], ◌∷◌, ◌++◌, Option, None, Some, Result, Ok, Err, refl, sym, ◌∙◌, ap, subst, arith, append_assoc, chars}
use Rattle.std.proofs.lemmas.Bool.{cond_both}
use Rattle.std.proofs.lemmas.List.{append-nil}
use Rattle.ci_expr.specs.Prelude.{ExprCode, X4, Kind, Join, Token, ◌>>=◌, Operand, Formula, joined, present, Level, chain, or, test, part, sign, comparing, matching, IsNamed}
use Rattle.ci_expr.specs.Prelude.{Derives, single, several, in_group, alone, compared, matched, source_of, Read, behind, behind_byte, is_kind, operand_by, pattern_of, compared_by}
use Rattle.ci_expr.specs.Prelude.{compared_from, matched_by, matched_from, sign_by, named_from, variable_by, test_by, joined_by, descend, reach, formula_from, whole_by}
use Rattle.ci_expr.specs.Descent.{closed}
use Rattle.ci_expr.proofs.Parts.{is_kind-true, Headed, IsBehind, behind-is, behind_byte-is, operand_by-is, pattern_of-is}

-- a formula of a level at the front of a list of tokens
pub record Cut (l : Level) (ts : List Token) (f : Formula) (rest : List Token) : Type 0 where
  pub front : List Token
  pub whole : ts ≡ front ++ rest
  pub derives : Derives l front f

-- such a formula with what is behind it, or the only fault of the grammar
abbrev Fits : Level → List Token → Read → Type 0
Fits l ts (Ok x) = Cut l ts x.0 x.1
Fits l ts (Err x) = x ≡ X4

-- ---- formulas that are joined
pair-by : (left right rest : List Token) (t : Token) (ts mid : List Token) → ts ≡ left ++ mid → mid ≡ t ∷ (right ++ rest) → ts ≡ (left ++ t ∷ right) ++ rest
pair-by left right rest t ts mid e h = e ∙ ap (λ us. left ++ us) h ∙ sym (append_assoc left (t ∷ right) rest)

others-fit : (j : Join) (ts mid left : List Token) (f : Formula) → Cut (part j) ts f mid → Headed (sign j) mid left → (r : Read) → Fits (chain j) left r
    → Fits (chain j) ts (r >>= λ y. Ok (joined j f y.0, y.1))
others-fit j ts mid left f a h (Err x) e = e
others-fit j ts mid left f a h (Ok y) b = record {
  front = a.front ++ h.head ∷ b.front;
  whole = pair-by a.front b.front y.1 h.head ts mid a.whole (h.whole ∙ ap (λ us. h.head ∷ us) b.whole);
  derives = several j a.front h.head b.front _ f y.0 a.derives h.is b.derives refl;
}

joined-fits : (j : Join) (next : List Token → Read) (ts mid : List Token) (f : Formula) → ((us : List Token) → Fits (chain j) us (next us)) → Cut (part j) ts f mid
    → (o : Option (List Token)) → IsBehind (sign j) mid o → Fits (chain j) ts (joined_by j next f mid o)
joined-fits j next ts mid f ih a None h = record { front = a.front; whole = a.whole; derives = single j a.front f a.derives }
joined-fits j next ts mid f ih a (Some left) h = others-fit j ts mid left f a h (next left) (ih left)

chain-fits : (j : Join) (next : List Token → Read) (ts : List Token) → ((us : List Token) → Fits (chain j) us (next us)) → (r : Read) → Fits (part j) ts r
    → Fits (chain j) ts (r >>= λ y. joined_by j next y.0 y.1 (behind (sign j) y.1))
chain-fits j next ts ih (Err x) e = e
chain-fits j next ts ih (Ok y) a = joined-fits j next ts y.1 y.0 ih a (behind (sign j) y.1) (behind-is (sign j) y.1)

-- ---- a test
compared-fits : (v c : Token) (ts : List Token) (negated : Bool) (name : List ℕ) → IsNamed name v → c.kind ≡ comparing negated
    → Fits test (v ∷ c ∷ ts) (compared_from negated name ts)
compared-fits v c [] negated name named sign = refl
compared-fits v c (w ∷ ts) negated name named sign = by-operand (operand_by w.slice w.kind) refl
  where
    by-operand : (o : Option Operand) → operand_by w.slice w.kind ≡ o → Fits test (v ∷ c ∷ w ∷ ts) (compared_by negated name ts o)
    by-operand None is = refl
    by-operand (Some operand) is =
        record { front = v ∷ c ∷ w ∷ []; whole = refl; derives = compared v c w negated name operand named sign (operand_by-is w operand w.kind refl is) }

matched-fits : (v c : Token) (ts : List Token) (negated : Bool) (name : List ℕ) → IsNamed name v → c.kind ≡ matching negated → Fits test (v ∷ c ∷ ts) (matched_from negated name ts)
matched-fits v c [] negated name named sign = refl
matched-fits v c (w ∷ ts) negated name named sign =
    cond_both (is_kind w.kind Kind.Pattern) _ _ (Fits test (v ∷ c ∷ w ∷ ts)) (λ is. by-pattern (is_kind-true w.kind Kind.Pattern is) (pattern_of w.slice) refl) (λ _. refl)
  where
    by-pattern : w.kind ≡ Kind.Pattern → (o : Option (List ℕ × Bool)) → pattern_of w.slice ≡ o → Fits test (v ∷ c ∷ w ∷ ts) (matched_by negated name ts o)
    by-pattern pattern None is = refl
    by-pattern pattern (Some p) is =
        record { front = v ∷ c ∷ w ∷ []; whole = refl; derives = matched v c w negated name (source_of (chars p.0)) p.1 named sign (pattern_of-is w p pattern is) }

alone-fits : (v : Token) (ts : List Token) (name : List ℕ) → IsNamed name v → Fits test (v ∷ ts) (Ok (present name, ts))
alone-fits v ts name named = record { front = v ∷ []; whole = refl; derives = alone v name named }

sign-fits : (v c : Token) (ts : List Token) (name : List ℕ) → IsNamed name v → (k : Kind) → c.kind ≡ k → Fits test (v ∷ c ∷ ts) (sign_by name c ts k)
sign-fits v c ts name named Kind.Equal is = compared-fits v c ts false name named is
sign-fits v c ts name named Kind.Unequal is = compared-fits v c ts true name named is
sign-fits v c ts name named Kind.Match is = matched-fits v c ts false name named is
sign-fits v c ts name named Kind.Mismatch is = matched-fits v c ts true name named is
sign-fits v c ts name named _ is = alone-fits v (c ∷ ts) name named

named-fits : (v : Token) (ts : List Token) (name : List ℕ) → IsNamed name v → Fits test (v ∷ ts) (named_from name ts)
named-fits v [] name named = alone-fits v [] name named
named-fits v (c ∷ ts) name named = sign-fits v c ts name named c.kind refl

variable-fits : (v : Token) (ts : List Token) → v.kind ≡ Kind.Name → (o : Option (List ℕ)) → behind_byte 36 v.slice ≡ o → Fits test (v ∷ ts) (variable_by ts o)
variable-fits v ts is None e = refl
variable-fits v ts is (Some name) e = named-fits v ts name (is, behind_byte-is 36 v.slice name (omega arith) e)

closed-fits : (t : Token) (ts mid : List Token) (f : Formula) → t.kind ≡ Kind.Left → Cut or ts f mid → (o : Option (List Token)) → IsBehind Kind.Right mid o
    → Fits test (t ∷ ts) (closed f o)
closed-fits t ts mid f is a None h = refl
closed-fits t ts mid f is a (Some rest) h = record {
  front = t ∷ (a.front ++ h.head ∷ []);
  whole = ap (λ us. t ∷ us) (pair-by a.front [] rest h.head ts mid a.whole h.whole);
  derives = in_group t a.front h.head _ f is a.derives h.is refl;
}

group-fits : (t : Token) (ts : List Token) → t.kind ≡ Kind.Left → (r : Read) → Fits or ts r → Fits test (t ∷ ts) (r >>= λ y. closed y.0 (behind Kind.Right y.1))
group-fits t ts is (Err x) e = e
group-fits t ts is (Ok y) a = closed-fits t ts y.1 y.0 is a (behind Kind.Right y.1) (behind-is Kind.Right y.1)

test-fits : (next : List Token → Read) (t : Token) (ts : List Token) → ((us : List Token) → Fits or us (next us)) → (k : Kind) → t.kind ≡ k
    → Fits test (t ∷ ts) (test_by next t.slice ts k)
test-fits next t ts ih Kind.Left is = group-fits t ts is (next ts) (ih ts)
test-fits next t ts ih Kind.Name is = variable-fits t ts is (behind_byte 36 t.slice) refl
test-fits next t ts ih _ is = refl

descend-fits : (n : ℕ) (l : Level) (ts : List Token) → Fits l ts (descend n l ts)
descend-fits zero l ts = refl
descend-fits (suc n) (chain j) ts = chain-fits j (descend n (chain j)) ts (λ us. descend-fits n (chain j) us) (descend n (part j) ts) (descend-fits n (part j) ts)
descend-fits (suc n) test [] = refl
descend-fits (suc n) test (t ∷ ts) = test-fits (descend n or) t ts (λ us. descend-fits n or us) t.kind refl

-- ---- the whole list
abbrev pub IsWhole : List Token → Result Formula ExprCode → Type 0
IsWhole ts (Ok f) = Derives or ts f
IsWhole ts (Err x) = x ≡ X4

pub formula_from-is : (ts : List Token) → IsWhole ts (formula_from ts)
formula_from-is ts = by-read (descend (reach or ts) or ts) (descend-fits (reach or ts) or ts)
  where
    by-rest : (f : Formula) (rest : List Token) → Cut or ts f rest → IsWhole ts (whole_by (f, rest))
    by-rest f [] c = subst (λ us. Derives or us f) (sym (c.whole ∙ append-nil c.front)) c.derives
    by-rest f (t ∷ rest) c = refl

    by-read : (r : Read) → Fits or ts r → IsWhole ts (r >>= whole_by)
    by-read (Err x) e = e
    by-read (Ok x) c = by-rest x.0 x.1 c
