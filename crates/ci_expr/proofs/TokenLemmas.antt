-- Tokens are read one after the other, and what is read are the tokens of a text, or its first fault, and nothing else is.
use Rattle.std.proofs.Common.{◌≡◌, ℕ, suc, ◌+◌, zero, ◌-◌, ◌<◌, ◌≤◌, true, false, List, [], ◌∷◌, ◌++◌, length, drop, get_or, Result, Ok, Err, refl, sym, ◌∙◌, ap, append_assoc}
use Rattle.std.proofs.Common.{arith, drop-drop, take, subst, nat_lt}
use Rattle.std.proofs.lemmas.Bool.{le-ltb, cond-true, cond-false, ltb-true, ltb-false, lt-ltb, cond_both}
use Rattle.std.proofs.lemmas.List.{drop_more, length-append, length-drop, length-take-le, take-append-drop, take_at, drop_at}
use Rattle.std.proofs.lemmas.Bool.Decides.{nat_tests}
use Rattle.std.specs.Global.{Vec}
use Rattle.ci_expr.specs.Prelude.{ExprCode, is_blank, Token, ◌>>=◌, with_token, token_from, lex, tokens_of, X1, ExprFault, Fails, X2, X3, X8, Kind, lexeme, token_at, IsMark}
use Rattle.ci_expr.specs.Prelude.{Spells, IsFront, AreTokens, nothing, blank, token, StaysOpen, quote, pattern, Stops, unclosed, wrong, Gives, tokens_view, Tokenizes}
use Rattle.ci_expr.specs.Prelude.{AtMostOneList}
use Rattle.ci_expr.specs.declared.token.Token as rust
use Rattle.ci_expr.specs.Meaning.{Answers}
use Rattle.ci_expr.proofs.Fronts as fronts
use Rattle.ci_expr.proofs.Fronts.{Front, bounds, front-fits}
use Rattle.ci_expr.proofs.FrontLemmas.{spelled-read, open-read, unread-stops, wrong-unread}

abbrev pub Lexed : Type 0
Lexed = Result (List Token) ExprCode

-- ---- one step of reading
abbrev pub rest_by : ℕ → ℕ → List ℕ → Result Token ExprCode → Lexed
rest_by n at bs r = r >>= λ t. with_token t (lex n t.end (drop (t.end - at) bs))

pub lex-blank : (n at b : ℕ) (bs : List ℕ) → is_blank b ≡ true → lex (suc n) at (b ∷ bs) ≡ lex n (at + 1) bs
lex-blank n at b bs e = cond-true (is_blank b) (lex n (at + 1) bs) (rest_by n at (b ∷ bs) (token_from at (b ∷ bs))) e

pub lex-by : (n at b : ℕ) (bs : List ℕ) → is_blank b ≡ false → lex (suc n) at (b ∷ bs) ≡ rest_by n at (b ∷ bs) (token_from at (b ∷ bs))
lex-by n at b bs e = cond-false (is_blank b) (lex n (at + 1) bs) (rest_by n at (b ∷ bs) (token_from at (b ∷ bs))) e

-- a text that isn't too long is read so
pub tokens_of-short : (text : List ℕ) → length text ≤ 1024 → tokens_of text ≡ lex (length text) 0 text
tokens_of-short text le = cond-false _ (Err X1) (lex (length text) 0 text) (le-ltb 1024 (length text) le)

abbrev made : ℕ → List ℕ → Kind × ℕ → Token
made at bs x = record { kind = x.0; slice = take x.1 bs; start = at; end = at + x.1 }

-- what is read where this is read at the front
abbrev after : ℕ → ℕ → List ℕ → Front → Lexed
after n at bs r = rest_by n at bs (r >>= λ x. Ok (made at bs x))

front-step : (n at b : ℕ) (bs : List ℕ) (r : Front) → is_blank b ≡ false → lexeme (b ∷ bs) ≡ r → lex (suc n) at (b ∷ bs) ≡ after n at (b ∷ bs) r
front-step n at b bs r e f = lex-by n at b bs e ∙ ap (after n at (b ∷ bs)) f

mark-filled : (q : ℕ) → IsMark q → is_blank q ≡ false
mark-filled q mark = grind (arith, nat_tests)

-- a token begins with no blank
first-filled : (k : Kind) (s rest : List ℕ) → Spells k s rest → (b : ℕ) × (bs : List ℕ) × (s ≡ b ∷ bs) × (is_blank b ≡ false)
first-filled Kind.Name s rest (b, bs, e, start, all, ends) = (36, b ∷ bs, e, refl)
first-filled Kind.Text s rest (q, body, e, mark, lacks) = (q, body ++ q ∷ [], e, mark-filled q mark)
first-filled Kind.Null s rest h = (110, 117 ∷ 108 ∷ 108 ∷ [], h.0, refl)
first-filled Kind.Pattern s rest (body, flag, e, is, fits) = (47, body ++ 47 ∷ flag, e, refl)
first-filled _ s rest h = (_, _, h, refl)

made-token : (n at : ℕ) (k : Kind) (s rest : List ℕ) → after n at (s ++ rest) (Ok (k, length s)) ≡ with_token (token_at at k s) (lex n (at + length s) rest)
made-token n at k s rest =
    let back : at + length s - at ≡ length s = omega arith in
    rw (back, take_at s rest (length s) refl, drop_at s rest (length s) refl) refl

-- a token, and then what is read behind it
token-step : (n at : ℕ) (k : Kind) (s rest : List ℕ) → Spells k s rest → lex (suc n) at (s ++ rest) ≡ with_token (token_at at k s) (lex n (at + length s) rest)
token-step n at k s rest spells =
    let (b, bs, e, filled) = first-filled k s rest spells in
    ap (λ (ys : List ℕ). lex (suc n) at (ys ++ rest)) e
    ∙ front-step n at b (bs ++ rest) (Ok (k, length s)) filled (ap (λ (ys : List ℕ). lexeme (ys ++ rest)) (sym e) ∙ spelled-read k s rest spells)
    ∙ ap (λ (ys : List ℕ). after n at (ys ++ rest) (Ok (k, length s))) (sym e)
    ∙ made-token n at k s rest

-- ---- complete
token-size : (k : Kind) (s rest bs : List ℕ) → bs ≡ s ++ rest → Spells k s rest → length rest < length bs
token-size k s rest bs e spells = let w = first-filled k s rest spells in omega (arith, ap length e, length-append s rest, ap length w.2)

pub tokens-read : (at : ℕ) (bs : List ℕ) (ts : List Token) → AreTokens at bs ts → (n : ℕ) → length bs ≤ n → lex n at bs ≡ Ok ts
tokens-read _ _ _ (nothing at) zero le = refl
tokens-read _ _ _ (nothing at) (suc n) le = refl
tokens-read _ _ _ (blank at b bs ts e h) zero le = absurd (omega (arith, le))
tokens-read _ _ _ (blank at b bs ts e h) (suc n) le = lex-blank n at b bs e ∙ tokens-read (at + 1) bs ts h n (omega (arith, le))
tokens-read _ _ _ (token at k s rest bs ts e spells h) zero le = absurd (omega (arith, le, token-size k s rest bs e spells))
tokens-read _ _ _ (token at k s rest bs ts e spells h) (suc n) le =
    ap (λ (ys : List ℕ). lex (suc n) at ys) e ∙ token-step n at k s rest spells
    ∙ ap (with_token (token_at at k s)) (tokens-read (at + length s) rest ts h n (omega (arith, le, token-size k s rest bs e spells)))

open-first : (bs : List ℕ) → StaysOpen bs → (b : ℕ) × (rest : List ℕ) × (bs ≡ b ∷ rest) × (is_blank b ≡ false)
open-first _ (quote q bs mark lacks) = (q, bs, refl, mark-filled q mark)
open-first _ (pattern bs never) = (47, bs, refl, refl)

open-stops : (n at : ℕ) (bs : List ℕ) → StaysOpen bs → length bs ≤ n → lex n at bs ≡ Err X3
open-stops zero at bs h le = let w = open-first bs h in absurd (omega (arith, le, ap length w.2))
open-stops (suc n) at bs h le =
    let w = open-first bs h in
    ap (λ (ys : List ℕ). lex (suc n) at ys) w.2 ∙ front-step n at w.0 w.1 (Err X3) w.3 (ap lexeme (sym w.2) ∙ open-read bs h)

pub stops-read : (bs : List ℕ) (x : ExprCode) → Stops bs x → (n at : ℕ) → length bs ≤ n → lex n at bs ≡ Err x
stops-read _ _ (Stops.blank b bs x e h) zero at le = absurd (omega (arith, le))
stops-read _ _ (Stops.blank b bs x e h) (suc n) at le = lex-blank n at b bs e ∙ stops-read bs x h n (at + 1) (omega (arith, le))
stops-read _ _ (Stops.token k s rest bs x e spells h) zero at le = absurd (omega (arith, le, token-size k s rest bs e spells))
stops-read _ _ (Stops.token k s rest bs x e spells h) (suc n) at le =
    ap (λ (ys : List ℕ). lex (suc n) at ys) e ∙ token-step n at k s rest spells
    ∙ ap (with_token (token_at at k s)) (stops-read rest x h n (at + length s) (omega (arith, le, token-size k s rest bs e spells)))
stops-read _ _ (unclosed bs h) n at le = open-stops n at bs h le
stops-read _ _ (wrong b bs e none closed) zero at le = absurd (omega (arith, le))
stops-read _ _ (wrong b bs e none closed) (suc n) at le = front-step n at b bs (Err X2) e (wrong-unread b bs none closed)

pub one-list : AtMostOneList
one-list text ts us a b =
    let p = tokens-read 0 text ts a (length text) (omega arith) in
    let q = tokens-read 0 text us b (length text) (omega arith) in cc

-- ---- sound
-- the tokens from a place on, or their first fault
abbrev Fits : ℕ → List ℕ → Lexed → Type 0
Fits at bs (Ok ts) = AreTokens at bs ts
Fits at bs (Err x) = Stops bs x

blank-fits : (at b : ℕ) (bs : List ℕ) (r : Lexed) → is_blank b ≡ true → Fits (at + 1) bs r → Fits at (b ∷ bs) r
blank-fits at b bs (Ok ts) e h = blank at b bs ts e h
blank-fits at b bs (Err x) e h = Stops.blank b bs x e h

token-fits : (at : ℕ) (bs : List ℕ) (x : Kind × ℕ) (r : Lexed) → IsFront bs x → Fits (at + x.1) (drop x.1 bs) r → Fits at bs (with_token (made at bs x) r)
token-fits at bs x (Err y) front h = Stops.token x.0 (take x.1 bs) (drop x.1 bs) bs y (sym (take-append-drop x.1 bs)) front.1 h
token-fits at bs x (Ok ts) front h =
    let size : length (take x.1 bs) ≡ x.1 = length-take-le x.1 bs front.0 in
    subst (λ (n : ℕ). AreTokens at bs (record { kind = x.0; slice = take x.1 bs; start = at; end = at + n } ∷ ts)) size
    (token at x.0 (take x.1 bs) (drop x.1 bs) bs ts (sym (take-append-drop x.1 bs)) front.1 (subst (λ n. AreTokens (at + n) (drop x.1 bs) ts) (sym size) h))

front-step-fits : (n at b : ℕ) (bs : List ℕ) → ((at : ℕ) (bs : List ℕ) → length bs ≤ n → Fits at bs (lex n at bs)) → length bs ≤ n → is_blank b ≡ false → (r : Front)
    → lexeme (b ∷ bs) ≡ r → fronts.Fits (b ∷ bs) r → Fits at (b ∷ bs) (after n at (b ∷ bs) r)
front-step-fits n at b bs ih le filled (Err x) f h = unread-stops b bs x filled f h
front-step-fits n at b bs ih le filled (Ok x) f h =
    let k : ℕ = x.1 in
    let back : at + k - at ≡ k = omega arith in
    let low = bounds (b ∷ bs) x h in
    token-fits at (b ∷ bs) x _ h (subst (λ j. Fits (at + k) (drop k (b ∷ bs)) (lex n (at + k) (drop j (b ∷ bs)))) (sym back)
    (ih (at + k) (drop k (b ∷ bs)) (omega (arith, le, low.some, length-drop k (b ∷ bs)))))

lex-fits : (n at : ℕ) (bs : List ℕ) → length bs ≤ n → Fits at bs (lex n at bs)
lex-fits zero at [] le = nothing at
lex-fits (suc n) at [] le = nothing at
lex-fits zero at (b ∷ bs) le = absurd (omega (arith, le))
lex-fits (suc n) at (b ∷ bs) le = cond_both (is_blank b) _ _ (Fits at (b ∷ bs))
    (λ e. blank-fits at b bs _ e (lex-fits n (at + 1) bs (omega (arith, le))))
    (λ e. front-step-fits n at b bs (λ at bs le. lex-fits n at bs le) (omega (arith, le)) e (lexeme (b ∷ bs)) refl (front-fits (b ∷ bs)))

-- ---- the whole text
-- no text stops for another cause
abbrev IsStop : ExprCode → Type 0
IsStop X2 = Unit {0}
IsStop X3 = Unit {0}
IsStop _ = ⊥

stops-at : (bs : List ℕ) (x : ExprCode) → Stops bs x → IsStop x
stops-at _ _ (Stops.blank b bs x e h) = stops-at bs x h
stops-at _ _ (Stops.token k s rest bs x e spells h) = stops-at rest x h
stops-at _ _ (unclosed bs h) = tt
stops-at _ _ (wrong b bs e none closed) = tt

short-sound : (text : List ℕ) (r : Lexed) → length text ≤ 1024 → Fits 0 text r → Tokenizes text r
short-sound text (Ok ts) le h = (le, h)
short-sound text (Err X1) le h = absurd (stops-at text X1 h)
short-sound text (Err _) le h = (le, h)

pub tokens_of-sound : (text : List ℕ) → Tokenizes text (tokens_of text)
tokens_of-sound text = cond_both (nat_lt 1024 (length text)) (Err X1) (lex (length text) 0 text) (Tokenizes text) (ltb-true 1024 (length text))
    (λ e. short-sound text (lex (length text) 0 text) (ltb-false 1024 (length text) e) (lex-fits (length text) 0 text (omega arith)))

pub tokens_of-only : (text : List ℕ) (r : Lexed) → Tokenizes text r → tokens_of text ≡ r
tokens_of-only text (Ok ts) (le, h) = tokens_of-short text le ∙ tokens-read 0 text ts h (length text) (omega arith)
tokens_of-only text (Err X1) lt = cond-true _ (Err X1) (lex (length text) 0 text) (lt-ltb 1024 (length text) lt)
tokens_of-only text (Err x) h = tokens_of-short text h.0 ∙ stops-read text x h.1 (length text) 0 (omega arith)

pub tokens-answer : (text : List ℕ) (r : Result (Vec rust.Token) ExprFault) → Gives tokens_view r (tokens_of text) → Answers tokens_view r (Tokenizes text)
tokens-answer text (Ok v) h = subst (Tokenizes text) h (tokens_of-sound text)
tokens-answer text (Err ExprFault.Memory) h = tt
tokens-answer text (Err (ExprFault.Fault x)) h = subst (Tokenizes text) h (tokens_of-sound text)

pub tokens-only : (text : List ℕ) (r : Result (Vec rust.Token) ExprFault) → Gives tokens_view r (tokens_of text) → (s : Lexed) → Tokenizes text s → Gives tokens_view r s
tokens-only text r h s t = subst (λ (q : Lexed). Gives tokens_view r q) (tokens_of-only text s t) h

pub tokens-own : (text : List ℕ) (x : ExprCode) → Tokenizes text (Err x) → x ≡ X8 → ⊥
tokens-own text x h is = let stops : (length text ≤ 1024) × Stops text X8 = subst (λ y. Tokenizes text (Err y)) is h in stops-at text X8 stops.1

-- ---- the tokens so far, and what is read behind them
abbrev pub with_front : List Token → Lexed → Lexed
with_front front (Ok ts) = Ok (front ++ ts)
with_front front (Err e) = Err e

front-token : (front : List Token) (t : Token) (r : Lexed) → with_front front (with_token t r) ≡ with_front (front ++ t ∷ []) r
front-token front t (Ok ts) = ap Ok (sym (append_assoc front (t ∷ []) ts))
front-token front t (Err e) = refl

front-nil : (r : Lexed) → with_front [] r ≡ r
front-nil (Ok ts) = refl
front-nil (Err e) = refl

abbrev pub Steps : List ℕ → ℕ → List Token → Type 0
Steps text at front = (n : ℕ) × (length text ≤ n + at) × (with_front front (lex n at (drop at text)) ≡ lex (length text) 0 text)

pub steps-start : (text : List ℕ) → Steps text 0 []
steps-start text = (length text, omega arith, front-nil (lex (length text) 0 text))

pub steps-blank : (text : List ℕ) (at : ℕ) (front : List Token) → at < length text → is_blank (get_or text at 0) ≡ true → Steps text at front → Steps text (at + 1) front
steps-blank text at front lt e (zero, le, h) = absurd (omega (arith, lt, le))
steps-blank text at front lt e (suc n, le, h) = (
  n,
  omega (arith, le),
  ap (with_front front) (sym (lex-blank n at (get_or text at 0) (drop (at + 1) text) e)) ∙ ap (λ x. with_front front (lex (suc n) at x)) (sym (drop_more text at 0 lt)) ∙ h,
)

by-token : (text : List ℕ) (at n : ℕ) (r : Result Token ExprCode) → at < length text → is_blank (get_or text at 0) ≡ false → token_from at (drop at text) ≡ r
    → lex (suc n) at (drop at text) ≡ rest_by n at (drop at text) r
by-token text at n r lt e f =
    let is = drop_more text at 0 lt in
    ap (lex (suc n) at) is ∙ lex-by n at (get_or text at 0) (drop (at + 1) text) e ∙ ap (λ x. rest_by n at x (token_from at x)) (sym is) ∙ ap (rest_by n at (drop at text)) f

pub steps-token : (text : List ℕ) (at : ℕ) (front : List Token) (t : Token) → at < length text → is_blank (get_or text at 0) ≡ false
    → token_from at (drop at text) ≡ Ok t → at < t.end → t.end ≤ length text → Steps text at front → Steps text t.end (front ++ t ∷ [])
steps-token text at front t lt e f grows le (zero, more, h) = absurd (omega (arith, lt, more))
steps-token text at front t lt e f grows le (suc n, more, h) =
    let stop : ℕ = t.end in
    let on : at + (stop - at) ≡ stop = omega (arith, grows) in
    let cut : drop (stop - at) (drop at text) ≡ drop stop text = drop-drop (stop - at) at text ∙ ap (λ k. drop k text) on in (
      n,
      omega (arith, more, grows),
      sym (front-token front t (lex n stop (drop stop text)))
          ∙ ap (λ x. with_front front (with_token t (lex n stop x))) (sym cut)
          ∙ ap (with_front front) (sym (by-token text at n (Ok t) lt e f)) ∙ h,
    )

pub fails-of : (text : List ℕ) (at : ℕ) (front : List Token) (stop : ExprFault) → length text ≤ 1024 → at < length text → is_blank (get_or text at 0) ≡ false
    → Fails stop (token_from at (drop at text)) → Steps text at front → Fails stop (tokens_of text)
fails-of text at front ExprFault.Memory small lt e r h = tt
fails-of text at front (ExprFault.Fault f) small lt e r (zero, more, h) = absurd (omega (arith, lt, more))
fails-of text at front (ExprFault.Fault f) small lt e r (suc n, more, h) =
    tokens_of-short text small ∙ sym h ∙ ap (with_front front) (by-token text at n (Err f) lt e r)
