-- Where a line's text may be cut.
use Rattle.std.proofs.Common.{◌≡◌, ◌≢◌, ℕ, zero, suc, ◌+◌, ◌-◌, ◌<◌, ◌≤◌, Bool, true, false, cond, List, [], ◌∷◌, ◌++◌, length, take, get_or, refl, sym, ◌∙◌, ap, subst, arith}
use Rattle.std.proofs.Common.{◌==◌, ◌&&◌, ◌||◌}
use Rattle.std.specs.Str.{IsUtf8, IsCharBoundary}
use Rattle.std.specs.List.{prefix_len}
use Rattle.std.proofs.lemmas.Str.{IsCharBoundary-start, IsCharBoundary-after_ascii}
use Rattle.std.proofs.lemmas.List.Sums.{prefix_len-le-length, prefix_len_passes}
use Rattle.std.proofs.lemmas.Bool.{and_parts, cond_both, ne_eqb}
use Rattle.std.proofs.lemmas.Bool.Decides.{nat_tests}
use Rattle.ci_yaml_lines.proofs.Lists.{last-parted, push-some, one-more}
use Rattle.ci_yaml_lines.specs.Prelude.{is_blank, blanks, trimmed_len, comment_len, space_next, place_len, key_len, is_space, spaces}

-- ---- behind blanks

prefix-by : (bs : List ℕ) (n : ℕ) → IsUtf8 bs → n ≤ length bs → ((k : ℕ) → k < n → get_or bs k 0 < 128) → IsCharBoundary bs n
prefix-by bs zero u le all = IsCharBoundary-start bs u
prefix-by bs (suc k) u le all = subst (IsCharBoundary bs) (omega arith) (IsCharBoundary-after_ascii bs k u (omega arith) (all k (omega arith)))

-- behind some of the bytes that a test holds of
prefix-boundary : (p : ℕ → Bool) → ((b : ℕ) → p b ≡ true → b < 128) → (bs : List ℕ) (n : ℕ) → IsUtf8 bs → n ≤ prefix_len p bs → IsCharBoundary bs n
prefix-boundary p ascii bs n u le = prefix-by bs n u (omega (arith, prefix_len-le-length p bs)) (λ k lt. ascii (get_or bs k 0) (prefix_len_passes p bs k 0 (omega arith)))

blank-ascii : (b : ℕ) → is_blank b ≡ true → b < 128
blank-ascii b e = grind (arith, nat_tests)

pub blanks-boundary : (bs : List ℕ) → IsUtf8 bs → IsCharBoundary bs (blanks bs)
blanks-boundary bs u = prefix-boundary is_blank blank-ascii bs (blanks bs) u (omega arith)

space-ascii : (b : ℕ) → is_space b ≡ true → b < 128
space-ascii b e = grind (arith, nat_tests)

pub spaces-boundary : (bs : List ℕ) → IsUtf8 bs → IsCharBoundary bs (spaces bs)
spaces-boundary bs u = prefix-boundary is_space space-ascii bs (spaces bs) u (omega arith)

-- behind some of them
pub spaces-inside : (bs : List ℕ) (n : ℕ) → IsUtf8 bs → n ≤ spaces bs → IsCharBoundary bs n
spaces-inside bs n u le = prefix-boundary is_space space-ascii bs n u le

-- ---- before an ASCII byte that a search stops at

abbrev Stopped : List ℕ → ℕ → Type 0
Stopped bs n = (n ≤ length bs) × (n < length bs → get_or bs n 0 < 128)

stopped-on : (b : ℕ) (bs : List ℕ) (n : ℕ) → Stopped bs n → Stopped (b ∷ bs) (1 + n)
stopped-on b bs n h = (omega arith, λ lt. subst (λ (k : ℕ). get_or (b ∷ bs) k 0 < 128) (sym (one-more n)) (h.1 (omega arith)))

-- L counts the bytes before the first that T holds of, with the byte before it and those behind it
stopped : (L : ℕ → List ℕ → ℕ) (T : ℕ → ℕ → List ℕ → Bool) → ((last : ℕ) → L last [] ≡ 0) → ((last b : ℕ) (bs : List ℕ) → L last (b ∷ bs) ≡ cond (T last b bs) 0 (1 + L b bs))
    → ((last b : ℕ) (bs : List ℕ) → T last b bs ≡ true → b < 128) → (last : ℕ) (bs : List ℕ) → Stopped bs (L last bs)
stopped L T nil by ascii last [] = (omega (arith, nil last), λ lt. absurd (omega arith))
stopped L T nil by ascii last (b ∷ bs) =
    subst (Stopped (b ∷ bs)) (sym (by last b bs))
    (cond_both (T last b bs) 0 (1 + L b bs) (Stopped (b ∷ bs)) (λ is. (omega arith, λ _. ascii last b bs is)) (λ _. stopped-on b bs (L b bs) (stopped L T nil by ascii b bs)))

boundary-before : (bs : List ℕ) (n : ℕ) → Stopped bs n → IsCharBoundary bs n
boundary-before bs n h = (h.0, λ lt hi. absurd (omega (arith, h.1 lt)))

trimmed-stopped : (bs : List ℕ) → Stopped bs (trimmed_len bs)
trimmed-stopped bs =
    stopped (λ _ xs. trimmed_len xs) (λ _ b xs. (trimmed_len xs == 0) && is_blank b) (λ _. refl) (λ _ _ _. refl) (λ _ b xs e. blank-ascii b (and_parts (trimmed_len xs == 0) (is_blank b) e).1) 0 bs

pub trimmed-le : (bs : List ℕ) → trimmed_len bs ≤ length bs
trimmed-le bs = (trimmed-stopped bs).0

pub trimmed-boundary : (bs : List ℕ) → IsCharBoundary bs (trimmed_len bs)
trimmed-boundary bs = boundary-before bs (trimmed_len bs) (trimmed-stopped bs)

pub comment-boundary : (last : ℕ) (bs : List ℕ) → IsCharBoundary bs (comment_len last bs)
comment-boundary last bs =
    boundary-before bs (comment_len last bs) (stopped comment_len (λ a b xs. (b == 35) && (a == 32)) (λ _. refl) (λ _ _ _. refl) (λ a b xs e. grind (arith, nat_tests)) last bs)

pub place-boundary : (last : ℕ) (bs : List ℕ) → IsCharBoundary bs (place_len last bs)
place-boundary last bs =
    boundary-before bs (place_len last bs)
    (stopped place_len (λ a b xs. ((b == 44) || (b == 93)) || ((b == 35) && (a == 32))) (λ _. refl) (λ _ _ _. refl) (λ a b xs e. grind (arith, nat_tests)) last bs)

pub key-boundary : (last : ℕ) (bs : List ℕ) → IsCharBoundary bs (key_len last bs)
key-boundary last bs =
    boundary-before bs (key_len last bs)
    (stopped key_len (λ a b xs. ((b == 35) && (a == 32)) || ((b == 58) && space_next xs)) (λ _. refl) (λ _ _ _. refl) (λ a b xs e. grind (arith, nat_tests)) last bs)

-- where the code cuts
pub ruleset boundaries = (blanks-boundary, spaces-boundary, trimmed-boundary, comment-boundary, place-boundary, key-boundary)

pub ruleset behind_ascii = (IsCharBoundary-after_ascii)

-- ---- without the blanks at the end

trimmed-more : (bs : List ℕ) (b : ℕ) → is_blank b ≡ true → trimmed_len (bs ++ b ∷ []) ≡ trimmed_len bs
trimmed-more [] b e = ap (λ t. cond t 0 1) e
trimmed-more (c ∷ bs) b e = ap (λ n. cond ((n == 0) && is_blank c) 0 (1 + n)) (trimmed-more bs b e)

pub full : (n c : ℕ) → 0 < n → cond ((n == 0) && is_blank c) 0 (1 + n) ≡ suc n
full n c lt = let some : n ≢ 0 = omega arith in ap (λ t. cond (t && is_blank c) 0 (1 + n)) (ne_eqb n 0 some) ∙ one-more n

trimmed-all : (bs : List ℕ) (b : ℕ) → is_blank b ≡ false → trimmed_len (bs ++ b ∷ []) ≡ length (bs ++ b ∷ [])
trimmed-all [] b e = ap (λ t. cond t 0 1) e
trimmed-all (c ∷ bs) b e = ap (λ n. cond ((n == 0) && is_blank c) 0 (1 + n)) (trimmed-all bs b e) ∙ full (length (bs ++ b ∷ [])) c (push-some bs b)

pub trimmed-front : (xs : List ℕ) → 1 ≤ length xs → is_blank (get_or xs (length xs - 1) 0) ≡ true → trimmed_len (take (length xs - 1) xs) ≡ trimmed_len xs
trimmed-front xs le e = sym (ap trimmed_len (last-parted xs 0 le) ∙ trimmed-more (take (length xs - 1) xs) (get_or xs (length xs - 1) 0) e)

pub trimmed-whole : (xs : List ℕ) → 1 ≤ length xs → is_blank (get_or xs (length xs - 1) 0) ≡ false → trimmed_len xs ≡ length xs
trimmed-whole xs le e = ap trimmed_len (last-parted xs 0 le) ∙ trimmed-all (take (length xs - 1) xs) (get_or xs (length xs - 1) 0) e ∙ ap length (sym (last-parted xs 0 le))

pub ruleset trims = (trimmed-front, trimmed-whole)
