-- What is computed of a list of tokens is what it means, and whatever it means is computed; a text means one thing.
use Rattle.std.proofs.Common.{◌≡◌, ℕ, true, false, List, Result, Ok, Err, refl, sym, ◌∙◌, subst, arith, ◌⊎◌, inl, inr, nat_lt}
use Rattle.std.proofs.lemmas.Bool.{ltb-true, ltb-false, lt-ltb, cond_both, false_from_ne_true}
use Rattle.ci_expr.specs.Prelude.{ExprCode, X4, X5, X6, X7, X8, ExprFault, Token, Formula, or, Derives, has_pattern, balances, deepest, has_stray, formula_from, Fails, Tokenizes}
use Rattle.ci_expr.specs.Prelude.{Parses, Means, Allows, IsOwn, parse_by, parse_of, IsBuilt, IsBalanced, HasStray, IsDeep, expression_of, ◌>>=◌, tokens_of, IsMeaning}
use Rattle.ci_expr.specs.Prelude.{MeansOneThing}
use Rattle.ci_expr.specs.Meaning.{Answers}
use Rattle.ci_expr.proofs.OrderLemmas.{balances-is, balanced-balances, deepest-deep, deep-is, stray-is, has-stray}
use Rattle.ci_expr.proofs.ReadIsDerived.{IsWhole, formula_from-is}
use Rattle.ci_expr.proofs.TokenLemmas.{tokens_of-sound, tokens_of-only, tokens-own}
use Rattle.ci_expr.proofs.Wholes.{formula_from-derived, derived-tidy}

abbrev Parsed : Type 0
Parsed = Result Formula ExprCode

-- ---- what is computed is so
orderly-sound : (ts : List Token) (r : Parsed) → formula_from ts ≡ r → IsWhole ts r → IsBalanced ts → ¬ (HasStray ts) → ¬ (IsDeep ts) → Parses ts r
orderly-sound ts (Ok f) e d balanced tidy shallow = (shallow, d)
orderly-sound ts (Err x) e only balanced tidy shallow =
    subst (λ y. Parses ts (Err y)) (sym only) (balanced, tidy, shallow, λ f d. let g = formula_from-derived ts f d in cc)

parse_of-sound : (ts : List Token) → Parses ts (parse_of ts)
parse_of-sound ts = cond_both (balances 0 ts) _ _ (λ o. Parses ts (parse_by ts o))
    (λ e. cond_both (has_stray false ts) _ _ (λ o. Parses ts (parse_by ts o))
    (λ f. (balances-is ts e, stray-is ts f))
    (λ f. let tidy : ¬ (HasStray ts) = λ h. let g = has-stray ts h in cc in
    cond_both (nat_lt 32 (deepest 0 ts)) _ _ (λ o. Parses ts (parse_by ts o))
    (λ g. (balances-is ts e, tidy, deepest-deep ts e (ltb-true 32 (deepest 0 ts) g)))
    (λ g. orderly-sound ts (formula_from ts) refl (formula_from-is ts) (balances-is ts e) tidy (λ h. omega (arith, deep-is ts e h, ltb-false 32 (deepest 0 ts) g)))))
    (λ e h. let f = balanced-balances ts h in cc)

-- ---- whatever is so is computed, a refused pattern aside
abbrev Refused : Parsed → Parsed → Type 0
Refused computed r = (r ≡ Err X8) × ((f : Formula) × (computed ≡ Ok f) × (has_pattern f ≡ true))

unstrayed : (ts : List Token) → ¬ (HasStray ts) → has_stray false ts ≡ false
unstrayed ts never = false_from_ne_true (has_stray false ts) (λ e. never (stray-is ts e))

shallow : (ts : List Token) → balances 0 ts ≡ true → ¬ (IsDeep ts) → nat_lt 32 (deepest 0 ts) ≡ false
shallow ts e never = false_from_ne_true (nat_lt 32 (deepest 0 ts)) (λ f. never (deepest-deep ts e (ltb-true 32 (deepest 0 ts) f)))

parsed-formula : (ts : List Token) (f : Formula) → ¬ (IsDeep ts) → Derives or ts f → parse_of ts ≡ Ok f
parsed-formula ts f never d = let w = derived-tidy ts f d in rw (w.0, w.1, shallow ts w.0 never) (formula_from-derived ts f d)

none-parsed : (ts : List Token) (r : Parsed) → IsWhole ts r → ((f : Formula) → ¬ (Derives or ts f)) → r ≡ Err X4
none-parsed ts (Ok f) d never = absurd (never f d)
none-parsed ts (Err x) only never = cc

parse_of-only : (ts : List Token) (r : Parsed) → Parses ts r → (parse_of ts ≡ r) ⊎ Refused (parse_of ts) r
parse_of-only ts (Ok f) (never, d) = inl (parsed-formula ts f never d)
parse_of-only ts (Err X5) h = inl (rw (false_from_ne_true (balances 0 ts) (λ e. h (balances-is ts e))) refl)
parse_of-only ts (Err X6) h = inl (rw (balanced-balances ts h.0, has-stray ts h.1) refl)
parse_of-only ts (Err X7) h =
    let e = balanced-balances ts h.0 in
    inl (rw (e, unstrayed ts h.1, lt-ltb 32 (deepest 0 ts) (deep-is ts e h.2)) refl)
parse_of-only ts (Err X4) h =
    let e = balanced-balances ts h.0 in
    inl (rw (e, unstrayed ts h.1, shallow ts e h.2) (none-parsed ts (formula_from ts) (formula_from-is ts) h.3))
parse_of-only ts (Err X8) (never, (f, d, has)) = inr (refl, (f, parsed-formula ts f never d, has))
parse_of-only ts (Err x) h = absurd h

own-by : (ts : List Token) (r : Parsed) → parse_of ts ≡ r → Parses ts r → IsOwn r
own-by ts (Ok f) e p = tt
own-by ts (Err x) e p = λ is. eighth (subst (λ y. Parses ts (Err y)) is p)
  where
    eighth : Parses ts (Err X8) → ⊥
    eighth (never, (f, d, has)) = let g = parsed-formula ts f never d in cc

parse_of-own : (ts : List Token) → IsOwn (parse_of ts)
parse_of-own ts = own-by ts (parse_of ts) refl (parse_of-sound ts)

-- ---- the whole text
abbrev OfToken : List ℕ → Result (List Token) ExprCode → Type 0
OfToken text r = (s : Result (List Token) ExprCode) → Tokenizes text s → s ≡ r

-- a text without tokens
untokenized : (text : List ℕ) (x : ExprCode) → OfToken text (Err x) → (r : Parsed) → Means text r → r ≡ Err x
untokenized text x only (Ok f) (ts, t, p) = let e = only (Ok ts) t in absurd cc
untokenized text x only (Err y) (inl t) = let e = only (Err y) t in cc
untokenized text x only (Err y) (inr (ts, t, p)) = let e = only (Ok ts) t in absurd cc

pub untokenized-error : {X : Type 0} (view : X → Formula) (text : List ℕ) (e : ExprFault) → ((s : Result (List Token) ExprCode) → Tokenizes text s → Fails e s) → (r : Parsed)
    → Means text r → Allows view (Err e) r
untokenized-error view text ExprFault.Memory only r m = tt
untokenized-error view text (ExprFault.Fault x) only r m = subst (Allows view (Err (ExprFault.Fault x))) (sym (untokenized text x only r m)) refl

-- what a text with these tokens means is what they mean
tokens-mean : (text : List ℕ) (ts : List Token) → OfToken text (Ok ts) → (r : Parsed) → Means text r → Parses ts r
tokens-mean text ts only = by-meaning
  where
    same : (us : List Token) (r : Parsed) → Tokenizes text (Ok us) → Parses us r → Parses ts r
    same us r t p = let e = only (Ok us) t in let is : us ≡ ts = cc in subst (λ vs. Parses vs r) is p

    by-meaning : (r : Parsed) → Means text r → Parses ts r
    by-meaning (Ok f) (us, t, p) = same us (Ok f) t p
    by-meaning (Err y) (inl t) = let e = only (Err y) t in absurd cc
    by-meaning (Err y) (inr (us, t, p)) = same us (Err y) t p

mean-tokens : (text : List ℕ) (ts : List Token) → Tokenizes text (Ok ts) → (r : Parsed) → Parses ts r → Means text r
mean-tokens text ts t (Ok f) p = (ts, t, p)
mean-tokens text ts t (Err x) p = inr (ts, t, p)

pub parse-answer : {X : Type 0} (view : X → Formula) (text : List ℕ) (ts : List Token) (r : Result X ExprFault) → Tokenizes text (Ok ts) → IsBuilt view r (parse_of ts)
    → Answers view r (Means text)
parse-answer view text ts (Ok x) t h = mean-tokens text ts t (Ok (view x)) (subst (Parses ts) h (parse_of-sound ts))
parse-answer view text ts (Err ExprFault.Memory) t h = tt
parse-answer view text ts (Err (ExprFault.Fault x)) t (inl e) = mean-tokens text ts t (Err x) (subst (Parses ts) e (parse_of-sound ts))
parse-answer view text ts (Err (ExprFault.Fault x)) t (inr (is, (f, e, has))) =
    let p : Parses ts (Ok f) = subst (Parses ts) e (parse_of-sound ts) in
    subst (λ y. Means text (Err y)) (sym is) (mean-tokens text ts t (Err X8) (p.0, (f, p.1, has)))

same-pattern : (f g : Formula) (computed : Parsed) → computed ≡ Ok f → computed ≡ Ok g → has_pattern f ≡ true → has_pattern g ≡ true
same-pattern f g computed d e has = let is : f ≡ g = cc in subst (λ h. has_pattern h ≡ true) is has

allowed : {X : Type 0} (view : X → Formula) (b : Result X ExprFault) (computed r : Parsed) → IsBuilt view b computed → (computed ≡ r) ⊎ Refused computed r → Allows view b r
allowed view (Ok x) computed (Ok f) h (inl e) = cc
allowed view (Ok x) computed (Ok f) h (inr (bad, w)) = cc
allowed view (Ok x) computed (Err y) h (inl e) = absurd cc
allowed view (Ok x) computed (Err y) h (inr (is, (f, e, has))) = (cc, same-pattern f (view x) computed e h has)
allowed view (Err ExprFault.Memory) computed r h w = tt
allowed view (Err (ExprFault.Fault x)) computed (Ok f) (inr (is, (k, g, has))) (inl e) = (is, same-pattern k f computed g e has)
allowed view (Err (ExprFault.Fault x)) computed (Ok f) (inl g) (inl e) = absurd cc
allowed view (Err (ExprFault.Fault x)) computed (Ok f) h (inr (bad, v)) = absurd cc
allowed view (Err (ExprFault.Fault x)) computed (Err y) (inl g) (inl e) = cc
allowed view (Err (ExprFault.Fault x)) computed (Err y) (inl g) (inr (is, (f, e, has))) = cc
allowed view (Err (ExprFault.Fault x)) computed (Err y) (inr (is, (f, g, has))) (inl e) = cc
allowed view (Err (ExprFault.Fault x)) computed (Err y) (inr (is, w)) (inr (also, v)) = cc

pub parse-only : {X : Type 0} (view : X → Formula) (text : List ℕ) (ts : List Token) (b : Result X ExprFault) → OfToken text (Ok ts) → IsBuilt view b (parse_of ts) → (r : Parsed)
    → Means text r → Allows view b r
parse-only view text ts b only h r m = allowed view b (parse_of ts) r h (parse_of-only ts r (tokens-mean text ts only r m))

-- ---- each text means one formula or has one fault, a refused pattern aside: what is computed of it
own-one : (ts : List Token) (r : Parsed) → IsOwn r → (parse_of ts ≡ r) ⊎ Refused (parse_of ts) r → r ≡ parse_of ts
own-one ts r own (inl e) = sym e
own-one ts (Ok f) own (inr w) = absurd cc
own-one ts (Err x) own (inr w) = let is : x ≡ X8 = cc in absurd (own is)

meaning : (text : List ℕ) (r : Result (List Token) ExprCode) → tokens_of text ≡ r → Tokenizes text r → IsMeaning text (r >>= parse_of)
meaning text (Ok ts) e t = (
  parse_of-own ts,
  mean-tokens text ts t (parse_of ts) (parse_of-sound ts),
  λ s own m. own-one ts s own (parse_of-only ts s (tokens-mean text ts (λ r u. sym (tokens_of-only text r u) ∙ e) s m)),
)
meaning text (Err x) e t = (tokens-own text x t, inl t, λ s own m. untokenized text x (λ r u. sym (tokens_of-only text r u) ∙ e) s m)

pub computed : (text : List ℕ) → IsMeaning text (expression_of text)
computed text = meaning text (tokens_of text) refl (tokens_of-sound text)

pub one-meaning : MeansOneThing
one-meaning text = (expression_of text, computed text)
