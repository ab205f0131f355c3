-- What the parameters of a match take of a path.
use Rattle.std.proofs.Common.{◌≡◌, ℕ, suc, ◌+◌, ◌-◌, ◌<◌, ◌≤◌, List, [], ◌∷◌, length, drop, take, get_or, Bool, true, false, cond, refl, sym, ap, ◌∙◌, arith, length-drop}
use Rattle.std.proofs.Common.{length-take, map, ◌==◌, ltb, leb, ◌&&◌}
use Rattle.std.proofs.lemmas.Bool.{le-ltb}
use Rattle.std.proofs.lemmas.Bool.Decides.{nat_tests}
use Rattle.std.proofs.lemmas.List.{drop-drop, drop_more}
use Rattle.matchit.specs.Params.{walk, wild_from, wild_stop, part_of, after_token}
use Rattle.matchit.specs.Seek.{segment, has_slash}
use Rattle.matchit.proofs.ParamsLemmas.{walk-next}
use Rattle.ci_http_messages.specs.Prelude.{after, fits, opens, tidy}
use Rattle.ci_http_messages.proofs.Walks.{cases, and-l, and-r, after-none, after-some}

-- the text before the first slash
abbrev pub before : List ℕ → List ℕ
before [] = []
before (b ∷ p) = cond (b == 47) [] (b ∷ before p)

-- what the slots of a pattern take
abbrev pub taken : List ℕ → List ℕ → List (List ℕ)
taken [] p = []
taken (x ∷ t) [] = []
taken (x ∷ t) (b ∷ p) = cond (x == 256) (before (b ∷ p) ∷ taken t (after p)) (taken t p)

pub before-length : (p : List ℕ) → take (length (before p)) p ≡ before p
before-length [] = refl
before-length (b ∷ p) = cases (b == 47) (λ e. rw e refl) (λ e. rw e (ap (λ z. b ∷ z) (before-length p)))

pub before-drop : (p : List ℕ) → drop (length (before p)) p ≡ after p
before-drop [] = refl
before-drop (b ∷ p) = cases (b == 47) (λ e. rw e refl) (λ e. rw e (before-drop p))

-- the segment without its slash
pub before-segment : (p : List ℕ) → has_slash p ≡ true → length (segment p) ≡ suc (length (before p))
before-segment [] h = cc
before-segment (b ∷ p) h = cases (b == 47) (λ e. rw e refl) (λ e. rw e (ap suc (before-segment p (rw e at h))))

pub before-all : (p : List ℕ) → has_slash p ≡ false → before p ≡ p
before-all [] h = refl
before-all (b ∷ p) h = cases (b == 47) (λ e. let k = rw e at h in cc) (λ e. rw e (ap (λ z. b ∷ z) (before-all p (rw e at h))))

pub drop-cons : (n : ℕ) (l : List ℕ) (x : ℕ) (r : List ℕ) → drop n l ≡ x ∷ r → (drop (n + 1) l ≡ r) × (n < length l) × (get_or l n 0 ≡ x)
drop-cons n l x r e =
    let within : n < length l = omega (arith, ap length e, length-drop n l) in
    let both = sym (drop_more l n 0 within) ∙ e in
    (cc, within, cc)

pub stop-end : (P A : List ℕ) (tok at : ℕ) → drop tok P ≡ 256 ∷ [] → wild_stop P tok A at ≡ length A
stop-end P A tok at e =
    let d = drop-cons tok P 256 [] e in
    let n : ltb (tok + 1) (length P) ≡ false = le-ltb (tok + 1) (length P) (omega (arith, ap length d.0, length-drop (tok + 1) P)) in
    let l : ltb tok (length P) ≡ true = grind (arith, nat_tests, d.1) in
    rw (l, d.2, n) refl

pub stop-mid : (P A t p : List ℕ) (tok at : ℕ) → drop tok P ≡ 256 ∷ 47 ∷ t → drop at A ≡ p → has_slash p ≡ true → wild_stop P tok A at ≡ at + length (before p)
stop-mid P A t p tok at e f s =
    let d = drop-cons tok P 256 (47 ∷ t) e in
    let d2 = drop-cons (tok + 1) P 47 t d.0 in
    let l : ltb tok (length P) ≡ true = grind (arith, nat_tests, d.1) in
    let n : ltb (tok + 1) (length P) ≡ true = grind (arith, nat_tests, d2.1) in
    let o : at + suc (length (before p)) - 1 ≡ at + length (before p) = omega arith in
    rw (l, d.2, n, d.0, f, before-segment p s) o

length-drops : (at : ℕ) (A : List ℕ) → at ≤ length A → at + length (drop at A) ≡ length A
length-drops at A l = omega (arith, length-drop at A)

part-mid : (A p : List ℕ) (at n : ℕ) → drop at A ≡ p → at ≤ length A → n ≤ length p → part_of A at (at + n) ≡ take n p
part-mid A p at n f w l =
    let ld = length-drops at A w in
    let q : at + length p ≡ length A = rw f at ld in
    let le : at + n ≤ length A = omega (arith, q) in
    let a : leb at (at + n) ≡ true = grind (arith, nat_tests) in
    let b : leb (at + n) (length A) ≡ true = grind (arith, nat_tests, le) in
    let m : (at + n) - at ≡ n = omega arith in
    rw (a, b, m, f) refl

-- how many slots a pattern has
abbrev pub slots : List ℕ → ℕ
slots [] = 0
slots (x ∷ t) = cond (x == 256) (suc (slots t)) (slots t)

no-slots : (t p : List ℕ) → slots t ≡ 0 → taken t p ≡ []
no-slots [] p h = refl
no-slots (x ∷ t) [] h = refl
no-slots (x ∷ t) (b ∷ p) h = cases (x == 256) (λ e. let k = rw e at h in cc) (λ e. rw e (no-slots t p (rw e at h)))

abbrev pub seconds : List (List ℕ × List ℕ) → List (List ℕ)
seconds pairs = map (λ pair. pair.1) pairs

open-slash : (t p : List ℕ) (y : ℕ) → fits (y ∷ t) (after p) ≡ true → has_slash p ≡ true
open-slash t p y h = cases (has_slash p) (λ e. e) (λ e. let k = rw (after-none p e) at h in cc)

before-le : (p : List ℕ) → length (before p) ≤ length p
before-le p = omega (arith, ap length (before-length p), length-take (length (before p)) p)

-- a literal is passed by
literal : (P T A : List ℕ) (x : ℕ) (t : List ℕ) (names : List (ℕ × ℕ)) (tok at : ℕ) → drop tok P ≡ x ∷ t → (ltb x 256) ≡ true → at < length A
    → walk P T A names tok at ≡ walk P T A names (tok + 1) (at + 1)
literal P T A x t [] tok at e l w = refl
literal P T A x t (name ∷ rest) tok at e l w =
    let d = drop-cons tok P x t e in
    let m : ltb at (length A) ≡ true = grind (arith, nat_tests) in
    rw (e, d.0, l, m) refl

slash-on : (b : ℕ) (p : List ℕ) (v : Bool) → (b == 47) ≡ false → has_slash p ≡ v → has_slash (b ∷ p) ≡ v
slash-on b p v nb h = rw nb h

stop-is : (P A t p : List ℕ) (b tok at : ℕ) → drop tok P ≡ 256 ∷ t → opens t ≡ true → fits t (after p) ≡ true → drop at A ≡ b ∷ p → (b == 47) ≡ false → at ≤ length A
    → wild_stop P tok A at ≡ at + length (before (b ∷ p))
stop-is P A [] p b tok at e o h f nb w =
    let ld = length-drops at A w in
    let g : at + length (b ∷ p) ≡ length A = rw f at ld in
    cases (has_slash p) (λ s. let q = after-some p s in let k = rw q.1 at h in cc)
    (λ s. stop-end P A tok at e ∙ sym g ∙ ap (λ z. at + length z) (sym (before-all (b ∷ p) (slash-on b p false nb s))))
stop-is P A (y ∷ t) p b tok at e o h f nb w =
    let y4 : y ≡ 47 = grind (arith, nat_tests) in
    let s = open-slash t p y h in
    stop-mid P A t (b ∷ p) tok at (rw y4 at e) f (slash-on b p true nb s)

pub no-front : (v w : Bool) → cond v false w ≡ true → (v ≡ false) × (w ≡ true)
no-front true w h = cc
no-front false w h = (refl, h)

token-next : (n tok : ℕ) → n < 18446744073709551615 → tok < n → after_token tok ≡ tok + 1
token-next n tok a b = omega arith

pub after-on : (b : ℕ) (p : List ℕ) → (b == 47) ≡ false → after (b ∷ p) ≡ after p
after-on b p nb = rw nb refl

module _ (P T A : List ℕ) (short : length P < 18446744073709551615) where
  abbrev Goes : List ℕ → Type 0
  Goes t = (p : List ℕ) (names : List (ℕ × ℕ)) (tok at : ℕ) → drop tok P ≡ t → drop at A ≡ p → at ≤ length A → fits t p ≡ true → tidy t ≡ true
      → slots t ≡ length names → seconds (walk P T A names tok at) ≡ taken t p

  at-slot : (t p : List ℕ) (b : ℕ) (name : ℕ × ℕ) (rest : List (ℕ × ℕ)) (tok at : ℕ) → Goes t → drop tok P ≡ 256 ∷ t → drop at A ≡ b ∷ p → at ≤ length A
      → cond (b == 47) false (fits t (after p)) ≡ true → (opens t && tidy t) ≡ true → slots t ≡ length rest
      → seconds (walk P T A (name ∷ rest) tok at) ≡ before (b ∷ p) ∷ taken t (after p)
  at-slot t p b name rest tok at ih e f w h d n =
      let k = no-front (b == 47) (fits t (after p)) h in
      let m = length (before (b ∷ p)) in
      let st : at + m ≡ wild_stop P tok A at = sym (stop-is P A t p b tok at e (and-l (opens t) _ d) k.1 f k.0 w) in
      let dp = drop-cons tok P 256 t e in
      let nt : tok + 1 ≡ after_token tok = sym (token-next (length P) tok short dp.1) in
      let wf : (tok, at) ≡ wild_from (drop tok P) (length A) tok at = rw e refl in
      let one = walk-next P T A (name ∷ rest) 0 tok at (at + m) (tok + 1) (tok, at) (omega arith) wf st nt in
      let part : part_of A at (at + m) ≡ before (b ∷ p) = part-mid A (b ∷ p) at m f w (before-le (b ∷ p)) ∙ before-length (b ∷ p) in
      let ld = length-drops at A w in
      let g : at + length (b ∷ p) ≡ length A = rw f at ld in
      let le : at + m ≤ length A = omega (arith, g, before-le (b ∷ p)) in
      let dn : drop (at + m) A ≡ after p = sym (drop-drop m at A) ∙ ap (λ z. drop m z) f ∙ before-drop (b ∷ p) ∙ after-on b p k.0 in
      let go = ih (after p) rest (tok + 1) (at + m) dp.0 dn le k.1 (and-r (opens t) _ d) n in
      ap seconds one ∙ ap (λ z. z ∷ seconds (walk P T A rest (tok + 1) (at + m))) part ∙ ap (λ z. before (b ∷ p) ∷ z) go

  pub walk-taken : (t : List ℕ) → Goes t
  walk-taken t p [] tok at e f w h d n = sym (no-slots t p n)
  walk-taken [] p (name ∷ rest) tok at e f w h d n = cc
  walk-taken (x ∷ t) [] (name ∷ rest) tok at e f w h d n = cc
  walk-taken (x ∷ t) (b ∷ p) (name ∷ rest) tok at e f w h d n =
      cases (x == 256) (
      λ q.
      let x6 : x ≡ 256 = grind (arith, nat_tests) in
      let n2 = rw q at n in
      let m : slots t ≡ length rest = omega arith in
      rw q (at-slot t p b name rest tok at (walk-taken t) (rw x6 at e) f w (rw q at h) (rw q at d) m)
      ) (
      λ q.
      let dr = drop-cons at A b p f in
      let dp = drop-cons tok P x t e in
      let d2 = rw q at d in
      rw q (ap seconds (literal P T A x t (name ∷ rest) tok at e (and-l (ltb x 256) _ d2) dr.1)
      ∙ walk-taken t p (name ∷ rest) (tok + 1) (at + 1) dp.0 dr.0 (omega (arith, dr.1)) (and-r (x == b) _ (rw q at h)) (and-r (ltb x 256) _ d2) (rw q at n))
      )
