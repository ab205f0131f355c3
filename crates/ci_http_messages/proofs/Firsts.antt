-- The walk of a router is the first row that fits: after a parameter, and the whole.
use Rattle.std.proofs.Common.{◌≡◌, ℕ, zero, suc, ◌-◌, ◌≤◌, List, [], ◌∷◌, length, drop, None, true, false, cond, refl, sym, ap, ◌∙◌, arith, nat_eq, ◌==◌, ltb, ◌&&◌}
use Rattle.std.proofs.lemmas.Bool.{cond-false}
use Rattle.std.proofs.lemmas.Bool.Decides.{nat_tests}
use Rattle.std.specs.Cmp.Lexicographic.{pointwise}
use Rattle.matchit.specs.Rows.{RowsOf}
use Rattle.matchit.specs.Seek.{step, seek, param_step, has_slash, segment, cuts, with_suffix}
use Rattle.matchit.specs.Level.{IsText}
use Rattle.matchit.proofs.ParamLemmas.{one_less, drop-length}
use Rattle.ci_http_messages.specs.Prelude.{after, first_fit, all_tidy, all_open, sorted, goes_on}
use Rattle.ci_http_messages.proofs.Walks.{cases, divide, or_else-nil, seek-nothing, seek-skip, sorted-step, tidy-step, open-step, no_catch, own-fit, seg-some, seg-slash}
use Rattle.ci_http_messages.proofs.Walks.{after-drop, after-some, after-none, length-after, long, seek-suffix, goes_on-not}

-- the suffix `/` can be cut where the segment has one and does not start with it
cuts-slash : (b : ℕ) (p : List ℕ) → (b == 47) ≡ false → cuts (segment (b ∷ p)) (47 ∷ []) ≡ has_slash p
cuts-slash b [] e =
    rw e refl
cuts-slash b (c ∷ q) e =
    let m = seg-some c q in
    let s = seg-slash (c ∷ q) in
    let s2 = rw (m.1, one_less m.0) at s in
    let lt : ltb 1 (suc (suc m.0)) ≡ true = grind (arith, nat_tests) in
    rw (e, m.1, one_less (suc m.0)) (ap (λ v. v && pointwise nat_eq (47 ∷ []) (drop m.0 (segment (c ∷ q)))) lt ∙ s2)

cuts-bare : (b : ℕ) (p : List ℕ) → (b == 47) ≡ true → cuts (segment (b ∷ p)) (47 ∷ []) ≡ false
cuts-bare b p e = rw e refl

pub param-ok : {K : Type 0} (rs : RowsOf K) (b : ℕ) (p : List ℕ) → all_open rs ≡ true → seek 0 rs (after p) ≡ first_fit rs (after p)
    → seek ((param_step rs (b ∷ p)).0 - 1) (param_step rs (b ∷ p)).1 p ≡ cond (b == 47) None (first_fit rs (after p))
unfolding param_step
param-ok rs b p o ih =
    cases (b == 47) (λ e. let l = long false (segment (b ∷ p)) rs (cuts-bare b p e) o in rw (l, e) (seek-nothing _ p))
    (λ e. let f = sym (cond-false (b == 47) None (first_fit rs (after p)) e) in cases (has_slash p) (λ s. slashed e s ∙ f) (λ s. flat e s ∙ f))
  where
    slashed : (b == 47) ≡ false → has_slash p ≡ true → seek ((param_step rs (b ∷ p)).0 - 1) (param_step rs (b ∷ p)).1 p ≡ first_fit rs (after p)
    slashed e s =
        let q = after-some p s in
        let l = long true (segment (b ∷ p)) rs (cuts-slash b p e ∙ s) o in
        let m : length (segment (b ∷ p)) ≡ suc (length (segment p)) = rw e refl in
        let d : seek (length (segment p) - 1) (with_suffix (47 ∷ []) rs) p ≡ seek 0 (with_suffix (47 ∷ []) rs) (after p) = seek-skip _ _ p ∙ ap (λ z. seek 0 (with_suffix (47 ∷ []) rs) z) (after-drop p s) in
        let f : seek 0 (with_suffix (47 ∷ []) rs) (after p) ≡ seek 0 rs (after p) = rw q.1 (seek-suffix 47 q.0 rs o) in
        let n : goes_on rs ≡ false → first_fit rs (after p) ≡ None = λ g. rw q.1 (goes_on-not 47 q.0 rs g) in
        cases (goes_on rs) (λ g. rw (l, g, m, one_less (length (segment p))) (d ∙ f ∙ ih)) (λ g. rw (l, g, e, s) (seek-nothing _ p ∙ sym (n g)))

    flat : (b == 47) ≡ false → has_slash p ≡ false → seek ((param_step rs (b ∷ p)).0 - 1) (param_step rs (b ∷ p)).1 p ≡ first_fit rs (after p)
    flat e s =
        let l = long false (segment (b ∷ p)) rs (cuts-slash b p e ∙ s) o in
        let n : after p ≡ [] = after-none p s in
        rw (l, e, s, one_less (length p)) (seek-skip (length p) rs p ∙ ap (λ z. seek 0 rs z) (drop-length p ∙ sym n) ∙ ih)

text-after : (p : List ℕ) → IsText p → IsText (after p)
text-after [] t = t
text-after (b ∷ q) t = cases (b == 47) (λ e. rw e t) (λ e. rw e (text-after q t.1))

-- what `at` finds is the first row that fits
pub first-fit : {K : Type 0} (n : ℕ) (rs : RowsOf K) (path : List ℕ) → length path ≤ n → sorted rs ≡ true → all_tidy rs ≡ true → IsText path → seek 0 rs path ≡ first_fit rs path
unfolding seek
first-fit n rs [] l s d x = own-fit rs
first-fit zero rs (b ∷ p) l s d x = absurd (omega arith)
first-fit (suc n) rs (b ∷ p) l s d x =
    let here = first-fit n (step b rs) p (omega arith) (sorted-step b rs s) (tidy-step b rs d) x.1 in
    let there = first-fit n (step 256 rs) (after p) (omega (arith, length-after p)) (sorted-step 256 rs s) (tidy-step 256 rs d) (text-after p x.1) in
    let beyond = param-ok (step 256 rs) b p (open-step rs d) there in
    rw (no_catch rs d, here, beyond, or_else-nil (cond (b == 47) None (first_fit (step 256 rs) (after p)))) (sym (divide rs b p x.0 s))
