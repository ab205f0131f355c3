-- Parentheses and patterns that are counted from the left, and what the counts mean.
use Rattle.std.proofs.Common.{◌≡◌, ℕ, zero, suc, ◌+◌, ◌<◌, ◌≤◌, Bool, true, false, List, [], ◌∷◌, ◌++◌, take, refl, sym, ◌∙◌, ap, arith, ⊎_elim, ◌==◌, ◌&&◌, ◌||◌, not}
use Rattle.std.proofs.lemmas.Bool.{eqb-true, eq-eqb, ne_eqb, and_parts, or_cases, or_right, not-true, cases_lt}
use Rattle.std.proofs.lemmas.Bool.Decides.{nat_tests}
use Rattle.ci_expr.specs.Prelude.{Kind, Token, opens, closes, opened, IsBalanced, IsDeep, takes_pattern, ends_in_match, HasStray, open_after, closes_none, balances, deepest}
use Rattle.ci_expr.specs.Prelude.{is_pattern, has_stray}
use Rattle.ci_expr.specs.Faults.{closed}

-- ---- parentheses
-- with so many open before, no beginning closes more than is open, and the whole closes all
record Closes (n : ℕ) (ts : List Token) : Type 0 where
  pub low : (k : ℕ) → closed (take k ts) ≤ n + opened (take k ts)
  pub even : closed ts ≡ n + opened ts

some-open : (n : ℕ) → (n == 0) ≡ false → 0 < n
some-open n e = grind (arith, nat_tests)

-- a token that closes none where none is open opens as many more as it doesn't close
token-opens : (n : ℕ) (j : Kind) → closes_none n j ≡ false → open_after n j + closes j ≡ n + opens j
token-opens n Kind.Right e = let some = some-open n e in omega (arith, some)
token-opens n _ e = omega arith

none-closed : (n : ℕ) (j : Kind) → closes j ≤ n + opens j → closes_none n j ≡ false
none-closed n Kind.Right le = ne_eqb n 0 (λ e. omega (arith, e, le))
none-closed n _ le = refl

before-token : (n : ℕ) (t : Token) (ts : List Token) → closes_none n t.kind ≡ false → Closes (open_after n t.kind) ts → Closes n (t ∷ ts)
before-token n t ts e c = let step = token-opens n t.kind e in record { low = low; even = omega (arith, step, c.even) }
  where
    low : (k : ℕ) → closed (take k (t ∷ ts)) ≤ n + opened (take k (t ∷ ts))
    low zero = omega arith
    low (suc k) = omega (arith, token-opens n t.kind e, c.low k)

first-opens : (n : ℕ) (t : Token) (ts : List Token) → Closes n (t ∷ ts) → closes_none n t.kind ≡ false
first-opens n t ts c = none-closed n t.kind (omega (arith, c.low 1))

after-token : (n : ℕ) (t : Token) (ts : List Token) → Closes n (t ∷ ts) → Closes (open_after n t.kind) ts
after-token n t ts c =
    let step = token-opens n t.kind (first-opens n t ts c) in
    record { low = λ k. omega (arith, step, c.low (suc k)); even = omega (arith, step, c.even) }

balances-closes : (n : ℕ) (ts : List Token) → balances n ts ≡ true → Closes n ts
balances-closes n [] e = record { low = λ k. nothing k; even = omega (arith, eqb-true n 0 e) }
  where
    nothing : (k : ℕ) → closed (take k []) ≤ n + opened (take k [])
    nothing zero = omega arith
    nothing (suc k) = omega arith
balances-closes n (t ∷ ts) e =
    let w = and_parts (not (closes_none n t.kind)) (balances (open_after n t.kind) ts) e in
    before-token n t ts (not-true (closes_none n t.kind) w.0) (balances-closes (open_after n t.kind) ts w.1)

closes-balances : (n : ℕ) (ts : List Token) → Closes n ts → balances n ts ≡ true
closes-balances n [] c = eq-eqb n 0 (omega (arith, c.even))
closes-balances n (t ∷ ts) c =
    ap (λ b. not b && balances (open_after n t.kind) ts) (first-opens n t ts c) ∙ closes-balances (open_after n t.kind) ts (after-token n t ts c)

pub balances-is : (ts : List Token) → balances 0 ts ≡ true → IsBalanced ts
balances-is ts e = let c = balances-closes 0 ts e in (λ k. omega (arith, c.low k), omega (arith, c.even))

pub balanced-balances : (ts : List Token) → IsBalanced ts → balances 0 ts ≡ true
balanced-balances ts h = closes-balances 0 ts (record { low = λ k. omega (arith, h.0 k); even = omega (arith, h.1) })

-- ---- depth
at-least : (n : ℕ) (ts : List Token) → n ≤ deepest n ts
at-least n [] = omega arith
at-least n (t ∷ ts) = omega arith

-- behind some beginning more than 32 are open, of which there were so many before
abbrev DeepFrom : ℕ → List Token → Type 0
DeepFrom n ts = (k : ℕ) × (closed (take k ts) + 32 < n + opened (take k ts))

deepest-is : (n : ℕ) (ts : List Token) → Closes n ts → 32 < deepest n ts → DeepFrom n ts
deepest-is n [] c lt = (0, omega (arith, lt))
deepest-is n (t ∷ ts) c lt = ⊎_elim
    (λ (here : 32 < n). (0, omega (arith, here)))
    (λ (le : n ≤ 32). let w = deepest-is (open_after n t.kind) ts (after-token n t ts c) (omega (arith, lt, le)) in
    (suc w.0, omega (arith, w.1, token-opens n t.kind (first-opens n t ts c))))
    (cases_lt 32 n)

deep-deepest : (n : ℕ) (ts : List Token) (k : ℕ) → Closes n ts → closed (take k ts) + 32 < n + opened (take k ts) → 32 < deepest n ts
deep-deepest n ts zero c lt = omega (arith, lt, at-least n ts)
deep-deepest n [] (suc k) c lt = omega (arith, lt)
deep-deepest n (t ∷ ts) (suc k) c lt =
    omega (arith, deep-deepest (open_after n t.kind) ts k (after-token n t ts c) (omega (arith, lt, token-opens n t.kind (first-opens n t ts c))))

pub deepest-deep : (ts : List Token) → balances 0 ts ≡ true → 32 < deepest 0 ts → IsDeep ts
deepest-deep ts e lt = let w = deepest-is 0 ts (balances-closes 0 ts e) lt in (w.0, omega (arith, w.1))

pub deep-is : (ts : List Token) → balances 0 ts ≡ true → IsDeep ts → 32 < deepest 0 ts
deep-is ts e w = deep-deepest 0 ts w.0 (balances-closes 0 ts e) (omega (arith, w.1))

-- ---- patterns
-- the token before takes a pattern, after a token that does or doesn't
abbrev takes-after : Bool → List Token → Bool
takes-after after [] = after
takes-after after (t ∷ ts) = takes-after (takes_pattern t.kind) ts

takes-last : (t : Token) (ts : List Token) → takes-after (takes_pattern t.kind) ts ≡ ends_in_match (t ∷ ts)
takes-last t [] = refl
takes-last t (u ∷ ts) = takes-last u ts

takes-none : (ts : List Token) → takes-after false ts ≡ ends_in_match ts
takes-none [] = refl
takes-none (t ∷ ts) = takes-last t ts

abbrev StrayIn : Bool → List Token → Type 0
StrayIn after ts =
    (before : List Token) × (t : Token) × (behind : List Token) × (ts ≡ before ++ t ∷ behind) × (t.kind ≡ Kind.Pattern) × (takes-after after before ≡ false)

pattern-is : (j : Kind) → is_pattern j ≡ true → j ≡ Kind.Pattern
pattern-is Kind.Pattern e = refl
pattern-is _ e = absurd cc

stray-at : (after : Bool) (ts : List Token) → has_stray after ts ≡ true → StrayIn after ts
stray-at after [] e = absurd cc
stray-at after (t ∷ ts) e = ⊎_elim
    (λ (h : (is_pattern t.kind && not after) ≡ true). let w = and_parts (is_pattern t.kind) (not after) h in
    ([], t, ts, refl, pattern-is t.kind w.0, not-true after w.1))
    (λ (h : has_stray (takes_pattern t.kind) ts ≡ true). let w = stray-at (takes_pattern t.kind) ts h in (t ∷ w.0, w.1, w.2, ap (λ us. t ∷ us) w.3, w.4, w.5))
    (or_cases (is_pattern t.kind && not after) (has_stray (takes_pattern t.kind) ts) e)

at-stray : (after : Bool) (before : List Token) (t : Token) (behind : List Token) → t.kind ≡ Kind.Pattern → takes-after after before ≡ false
    → has_stray after (before ++ t ∷ behind) ≡ true
at-stray after [] t behind is alone =
    ap (λ (j : Kind). (is_pattern j && not after) || has_stray (takes_pattern j) behind) is ∙ ap (λ b. not b || has_stray false behind) alone
at-stray after (u ∷ before) t behind is alone = or_right (is_pattern u.kind && not after) _ (at-stray (takes_pattern u.kind) before t behind is alone)

pub stray-is : (ts : List Token) → has_stray false ts ≡ true → HasStray ts
stray-is ts e = let w = stray-at false ts e in (w.0, w.1, w.2, w.3, w.4, sym (takes-none w.0) ∙ w.5)

pub has-stray : (ts : List Token) → HasStray ts → has_stray false ts ≡ true
has-stray ts (before, t, behind, whole, is, alone) =
    ap (has_stray false) whole ∙ at-stray false before t behind is (takes-none before ∙ alone)
