-- The walk of a router is the first row that fits.
use Rattle.std.proofs.Common.{◌≡◌, ℕ, zero, suc, ◌-◌, ◌<◌, ◌≤◌, List, [], ◌∷◌, length, drop, Option, Some, None, Bool, true, false, cond, refl, ap, arith, nat_eq, ◌==◌, ltb, ◌&&◌}
use Rattle.std.specs.List.{list_all}
use Rattle.std.proofs.lemmas.Bool.{and_parts, and_from}
use Rattle.std.proofs.lemmas.Bool.Decides.{nat_tests}
use Rattle.std.specs.Cmp.Lexicographic.{pointwise}
use Rattle.matchit.specs.Rows.{RowsOf, comes_before}
use Rattle.matchit.specs.Seek.{own, step, or_else, seek, param_step, has_slash, segment, cuts, longest_from, with_suffix}
use Rattle.matchit.proofs.ParamLemmas.{one_less}
use Rattle.ci_http_messages.specs.Prelude.{after, fits, opens, tidy, first_fit, all_tidy, all_open, ahead, sorted, goes_on}

-- a test holds or doesn't
pub cases : {P : Type 0} (b : Bool) → (b ≡ true → P) → (b ≡ false → P) → P
cases true holds fails = holds refl
cases false holds fails = fails refl

pub and-l : (a b : Bool) → (a && b) ≡ true → a ≡ true
and-l a b h = (and_parts a b h).0

pub and-r : (a b : Bool) → (a && b) ≡ true → b ≡ true
and-r a b h = (and_parts a b h).1

pub or_else-nil : {K : Type 0} (a : Option K) → or_else a None ≡ a
or_else-nil None = refl
or_else-nil (Some k) = refl

none-step : {K : Type 0} (p : List ℕ) → (param_step {K = K} [] p).1 ≡ []
unfolding param_step
none-step p = cases (has_slash p) (λ e. rw e refl) (λ e. rw e refl)

pub seek-nothing : {K : Type 0} (k : ℕ) (p : List ℕ) → seek {K = K} k [] p ≡ None
unfolding seek
seek-nothing k [] = refl
seek-nothing (suc k) (b ∷ p) = seek-nothing k p
seek-nothing {K} zero (b ∷ p) = simp (seek-nothing {K = K} 0 p, none-step {K = K} (b ∷ p), seek-nothing {K = K} (((param_step {K = K} [] (b ∷ p)).0) - 1) p)

pub seek-skip : {K : Type 0} (k : ℕ) (r : RowsOf K) (p : List ℕ) → seek k r p ≡ seek 0 r (drop k p)
unfolding seek
seek-skip zero r p = refl
seek-skip (suc k) r [] = refl
seek-skip (suc k) r (b ∷ p) = seek-skip k r p

pub same-byte : (x b : ℕ) → (x == b) ≡ true → x ≡ b
same-byte x b e = grind (arith, nat_tests)

-- what holds of all rows, after a step
pub all-step : {K : Type 0} (f g : List ℕ → Bool) (b : ℕ) → ((u : List ℕ) → f (b ∷ u) ≡ true → g u ≡ true) → (rs : RowsOf K) → list_all (λ r. f r.0) rs ≡ true
    → list_all (λ r. g r.0) (step b rs) ≡ true
all-step f g b on [] h = refl
all-step f g b on (([], k) ∷ rest) h = all-step f g b on rest (and-r (f []) _ h)
all-step f g b on ((x ∷ u, k) ∷ rest) h =
    let ih = all-step f g b on rest (and-r (f (x ∷ u)) _ h) in
    let a = and-l (f (x ∷ u)) _ h in
    cases (x == b) (λ e. rw e (and_from _ _ (on u (rw (same-byte x b e) at a)) ih)) (λ e. rw e ih)

-- no row goes on with a byte with which none may
pub none-on : {K : Type 0} (f : List ℕ → Bool) (b : ℕ) → ((u : List ℕ) → f (b ∷ u) ≡ true → ⊥) → (rs : RowsOf K) → list_all (λ r. f r.0) rs ≡ true → step b rs ≡ []
none-on f b never [] h = refl
none-on f b never (([], k) ∷ rest) h = none-on f b never rest (and-r (f []) _ h)
none-on f b never ((x ∷ u, k) ∷ rest) h =
    let ih = none-on f b never rest (and-r (f (x ∷ u)) _ h) in
    let a = and-l (f (x ∷ u)) _ h in
    cases (x == b) (λ e. absurd (never u (rw (same-byte x b e) at a))) (λ e. rw e ih)

pub sorted-step : {K : Type 0} (b : ℕ) (rs : RowsOf K) → sorted rs ≡ true → sorted (step b rs) ≡ true
sorted-step b [] h = refl
sorted-step b (([], k) ∷ rest) h = sorted-step b rest (and-r (ahead [] rest) _ h)
sorted-step b ((x ∷ u, k) ∷ rest) h =
    let ih = sorted-step b rest (and-r (ahead (x ∷ u) rest) _ h) in
    let a = and-l (ahead (x ∷ u) rest) _ h in
    cases (x == b) (λ e. rw e (and_from _ _ (all-step (comes_before (b ∷ u)) (comes_before u) b (next b u) rest (rw (same-byte x b e) at a)) ih)) (λ e. rw e ih)
  where
    next : (b : ℕ) (u v : List ℕ) → comes_before (b ∷ u) (b ∷ v) ≡ true → comes_before u v ≡ true
    next b u v c =
        let l : ltb b b ≡ false = grind (arith, nat_tests) in
        let m : (b == b) ≡ true = grind (arith, nat_tests) in
        rw (l, m) at c

pub tidy-tail : (x : ℕ) (t : List ℕ) → tidy (x ∷ t) ≡ true → tidy t ≡ true
tidy-tail x t h = cases (x == 256) (λ e. and-r (opens t) _ (rw e at h)) (λ e. and-r (ltb x 256) _ (rw e at h))

pub tidy-step : {K : Type 0} (b : ℕ) (rs : RowsOf K) → all_tidy rs ≡ true → all_tidy (step b rs) ≡ true
tidy-step b rs h = all-step tidy tidy b (tidy-tail b) rs h

pub open-step : {K : Type 0} (rs : RowsOf K) → all_tidy rs ≡ true → all_open (step 256 rs) ≡ true
open-step rs h = all-step tidy opens 256 (λ u a. and-l (opens u) _ a) rs h

pub no_catch : {K : Type 0} (rs : RowsOf K) → all_tidy rs ≡ true → step 257 rs ≡ []
no_catch rs h = none-on tidy 257 (λ u a. cc) rs h

pub no_literal : {K : Type 0} (b : ℕ) (t : List ℕ) (rs : RowsOf K) → b < 256 → ahead (256 ∷ t) rs ≡ true → step b rs ≡ []
no_literal b t rs s h =
    let l : ltb 256 b ≡ false = grind (arith, nat_tests) in
    let m : (256 == b) ≡ false = grind (arith, nat_tests) in
    none-on (comes_before (256 ∷ t)) b (λ u c. let k = rw (l, m) at c in cc) rs h

-- a first byte splits the rows
pub divide : {K : Type 0} (rs : RowsOf K) (b : ℕ) (p : List ℕ) → b < 256 → sorted rs ≡ true
    → first_fit rs (b ∷ p) ≡ or_else (first_fit (step b rs) p) (cond (b == 47) None (first_fit (step 256 rs) (after p)))
divide [] b p s h = cases (b == 47) (λ e. rw e refl) (λ e. rw e refl)
divide (([], k) ∷ rest) b p s h = divide rest b p s (and-r (ahead [] rest) _ h)
divide ((x ∷ t, k) ∷ rest) b p s h =
    let ih = divide rest b p s (and-r (ahead (x ∷ t) rest) _ h) in
    let a = and-l (ahead (x ∷ t) rest) _ h in
    cases (x == 256) (
    λ e.
    let n : (x == b) ≡ false = grind (arith, nat_tests) in
    let gone : step b rest ≡ [] = no_literal b t rest s (rw (same-byte x 256 e) at a) in
    let ih2 = rw gone at ih in
    cases (b == 47) (λ f. rw (e, n, gone, f) (rw f at ih2)) (λ f. cases (fits t (after p)) (λ g. rw (e, n, gone, f, g) refl) (λ g. rw (e, n, gone, f, g) (rw f at ih2)))
    )
    (λ e. cases (x == b) (λ f. cases (fits t p) (λ g. rw (e, f, g) refl) (λ g. rw (e, f, g) ih)) (λ f. rw (e, f) ih))

pub own-fit : {K : Type 0} (rs : RowsOf K) → own rs ≡ first_fit rs []
own-fit [] = refl
own-fit (([], k) ∷ rest) = refl
own-fit ((x ∷ t, k) ∷ rest) = own-fit rest

-- a segment's end
pub seg-some : (c : ℕ) (q : List ℕ) → (m : ℕ) × (length (segment (c ∷ q)) ≡ suc m)
seg-some c q = cases (c == 47) (λ e. (0, rw e refl)) (λ e. (length (segment q), rw e refl))

pub seg-slash : (p : List ℕ) → pointwise nat_eq (47 ∷ []) (drop (length (segment p) - 1) (segment p)) ≡ has_slash p
seg-slash [] = refl
seg-slash (b ∷ q) = cases (b == 47) (λ e. let f : nat_eq 47 b ≡ true = grind (arith, nat_tests) in rw (e, f) refl) (λ e. on e q (seg-slash q))
  where
    on : (b == 47) ≡ false → (q : List ℕ) → pointwise nat_eq (47 ∷ []) (drop (length (segment q) - 1) (segment q)) ≡ has_slash q
        → pointwise nat_eq (47 ∷ []) (drop (length (segment (b ∷ q)) - 1) (segment (b ∷ q))) ≡ has_slash (b ∷ q)
    on e [] ih = let f : nat_eq 47 b ≡ false = grind (arith, nat_tests) in rw (e, f) refl
    on e (c ∷ q) ih =
        let m = seg-some c q in
        let ih2 = rw (m.1, one_less m.0) at ih in
        rw (e, m.1, one_less (suc m.0)) ih2

pub after-drop : (p : List ℕ) → has_slash p ≡ true → drop (length (segment p) - 1) p ≡ after p
after-drop [] h = refl
after-drop (b ∷ []) h = cases (b == 47) (λ e. rw e refl) (λ e. let k = rw e at h in cc)
after-drop (b ∷ c ∷ q) h =
    let m = seg-some c q in
    cases (b == 47) (λ e. rw e refl) (λ e. let ih = after-drop (c ∷ q) (rw e at h) in rw (e, m.1, one_less (suc m.0)) (rw (m.1, one_less m.0) at ih))

pub after-some : (p : List ℕ) → has_slash p ≡ true → (q : List ℕ) × (after p ≡ 47 ∷ q)
after-some [] h = cc
after-some (b ∷ q) h = cases (b == 47) (λ e. (q, rw (e, same-byte b 47 e) refl)) (λ e. rw e (after-some q (rw e at h)))

pub after-none : (p : List ℕ) → has_slash p ≡ false → after p ≡ []
after-none [] h = refl
after-none (b ∷ q) h = cases (b == 47) (λ e. let k = rw e at h in cc) (λ e. rw e (after-none q (rw e at h)))

pub length-after : (p : List ℕ) → length (after p) ≤ length p
length-after [] = omega arith
length-after (b ∷ q) =
    let ih = length-after q in
    cases (b == 47) (λ e. rw e (omega arith)) (λ e. rw e (omega arith))

-- the suffixes after a parameter
pub long-slash : {K : Type 0} (seg : List ℕ) (rs : RowsOf K) → all_open rs ≡ true → longest_from seg (47 ∷ []) rs ≡ 47 ∷ []
long-slash seg [] h = refl
long-slash seg (([], k) ∷ rest) h = long-slash seg rest (and-r true _ h)
long-slash seg ((x ∷ u, k) ∷ rest) h =
    let e = and-l (x == 47) _ h in
    rw e (long-slash seg rest (and-r (x == 47) _ h))

pub long : {K : Type 0} (c : Bool) (seg : List ℕ) (rs : RowsOf K) → cuts seg (47 ∷ []) ≡ c → all_open rs ≡ true → longest_from seg [] rs ≡ cond (c && goes_on rs) (47 ∷ []) []
long true seg [] q h = refl
long false seg [] q h = refl
long c seg (([], k) ∷ rest) q h = long c seg rest q (and-r true _ h)
long true seg ((x ∷ u, k) ∷ rest) q h =
    let e = and-l (x == 47) _ h in
    rw (e, same-byte x 47 e, q) (long-slash seg rest (and-r (x == 47) _ h))
long false seg ((x ∷ u, k) ∷ rest) q h =
    let e = and-l (x == 47) _ h in
    rw (e, same-byte x 47 e, q) (long false seg rest q (and-r (x == 47) _ h))

pub step-suffix : {K : Type 0} (b : ℕ) (rs : RowsOf K) → all_open rs ≡ true → step b (with_suffix (47 ∷ []) rs) ≡ step b rs
step-suffix b [] h = refl
step-suffix b (([], k) ∷ rest) h = step-suffix b rest (and-r true _ h)
step-suffix b ((x ∷ u, k) ∷ rest) h =
    let e = and-l (x == 47) _ h in
    rw (e, same-byte x 47 e) (ap (λ z. cond (47 == b) ((u, k) ∷ z) z) (step-suffix b rest (and-r (x == 47) _ h)))

pub seek-suffix : {K : Type 0} (b : ℕ) (q : List ℕ) (rs : RowsOf K) → all_open rs ≡ true → seek 0 (with_suffix (47 ∷ []) rs) (b ∷ q) ≡ seek 0 rs (b ∷ q)
unfolding seek
seek-suffix b q rs h = rw (step-suffix b rs h, step-suffix 256 rs h, step-suffix 257 rs h) refl

pub goes_on-not : {K : Type 0} (b : ℕ) (q : List ℕ) (rs : RowsOf K) → goes_on rs ≡ false → first_fit rs (b ∷ q) ≡ None
goes_on-not b q [] h = refl
goes_on-not b q (([], k) ∷ rest) h = goes_on-not b q rest h
goes_on-not b q ((x ∷ u, k) ∷ rest) h = cc
