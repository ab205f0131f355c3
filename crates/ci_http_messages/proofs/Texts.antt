-- The slots of a pattern take the segments that stand at them, and these are texts.
use Rattle.std.proofs.Common.{◌≡◌, ℕ, ◌<◌, List, [], ◌∷◌, length, drop, Bool, true, cond, subst, ◌∙◌, arith, ◌==◌, ltb, ◌&&◌}
use Rattle.std.proofs.lemmas.Bool.{and_parts}
use Rattle.std.proofs.lemmas.Bool.Decides.{nat_tests}
use Rattle.std.specs.Str.{IsUtf8}
use Rattle.std.proofs.lemmas.Str.{IsUtf8-take, IsUtf8-drop, IsUtf8-nil, IsCharBoundary-before_ascii, IsCharBoundary-after_ascii}
use Rattle.matchit.specs.Seek.{has_slash}
use Rattle.ci_http_messages.specs.Prelude.{after, fits}
use Rattle.ci_http_messages.proofs.Walks.{cases, after-some, after-none}
use Rattle.ci_http_messages.proofs.Takes.{before, taken, before-length, before-drop, before-all, drop-cons, no-front, after-on}

-- each of these is a text
abbrev pub AllUtf8 : List (List ℕ) → Type 0
AllUtf8 [] = Unit {0}
AllUtf8 (s ∷ ss) = IsUtf8 s × AllUtf8 ss

-- the literals are ASCII
abbrev pub plain_tokens : List ℕ → Bool
plain_tokens [] = true
plain_tokens (x ∷ t) = cond (x == 256) (plain_tokens t) (ltb x 128 && plain_tokens t)

pieces-utf8 : (p : List ℕ) → IsUtf8 p → IsUtf8 (before p) × IsUtf8 (after p)
pieces-utf8 p u =
    cases (has_slash p) (
    λ s.
    let q = after-some p s in
    let m = length (before p) in
    let d : drop m p ≡ 47 ∷ q.0 = before-drop p ∙ q.1 in
    let (next, within, g) = drop-cons m p 47 q.0 d in
    let b = IsCharBoundary-before_ascii p m within (omega (arith, g)) in
    (subst IsUtf8 (before-length p) (IsUtf8-take p m u b), subst IsUtf8 (before-drop p) (IsUtf8-drop p m u b))
    )
    (λ s. (rw (before-all p s) u, rw (after-none p s) IsUtf8-nil))

past-utf8 : (b : ℕ) (p : List ℕ) → b < 128 → IsUtf8 (b ∷ p) → IsUtf8 p
past-utf8 b p l u = IsUtf8-drop (b ∷ p) 1 u (IsCharBoundary-after_ascii (b ∷ p) 0 u (omega arith) l)

pub taken-utf8 : (t p : List ℕ) → plain_tokens t ≡ true → fits t p ≡ true → IsUtf8 p → AllUtf8 (taken t p)
taken-utf8 [] p a h u = tt
taken-utf8 (x ∷ t) [] a h u = tt
taken-utf8 (x ∷ t) (b ∷ p) a h u =
    cases (x == 256) (
    λ e.
    let (f, k) = no-front (b == 47) (fits t (after p)) (rw e at h) in
    let w = pieces-utf8 (b ∷ p) u in
    rw e (w.0, taken-utf8 t (after p) (rw e at a) k (subst IsUtf8 (after-on b p f) w.1))
    ) (
    λ e.
    let (l1, a2) = and_parts (ltb x 128) _ (rw e at a) in
    let (l2, h2) = and_parts (x == b) _ (rw e at h) in
    let l : b < 128 = grind (arith, nat_tests) in
    rw e (taken-utf8 t p a2 h2 (past-utf8 b p l u))
    )
