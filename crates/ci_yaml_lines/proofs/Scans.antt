-- Searches from byte to byte.
use Rattle.std.proofs.Common.{◌≡◌, ℕ, ◌+◌, ◌-◌, ◌<◌, ◌≤◌, Bool, false, cond, List, [], ◌∷◌, length, take, drop, get_or, refl, sym, ◌∙◌, ap, arith, ◌==◌, ◌&&◌, ◌||◌}
use Rattle.ci_yaml_lines.specs.Prelude.{space_next, head_is, tail_of, key_len, has_tab_after, has_colon, has_inner, has_byte_order_mark}
use Rattle.ci_yaml_lines.proofs.Lists.{take-past}

-- what follows the first
abbrev pub rest_of : List ℕ → List ℕ
rest_of xs = take (length xs - 1) (drop 1 xs)

first-parted : (xs : List ℕ) → 1 ≤ length xs → xs ≡ get_or xs 0 0 ∷ rest_of xs
first-parted [] le = absurd (omega arith)
first-parted (x ∷ xs) le = let past : length xs ≤ length (x ∷ xs) - 1 = omega arith in ap (λ (ys : List ℕ). x ∷ ys) (sym (take-past (length (x ∷ xs) - 1) xs past))

pub rest_length : (xs : List ℕ) → 1 ≤ length xs → 1 + length (rest_of xs) ≡ length xs
rest_length xs le = omega (arith, ap length (first-parted xs le))

-- S says whether P holds of a byte and of what follows it.
abbrev pub Searches : (S : List ℕ → Bool) (P : ℕ → List ℕ → Bool) → Type 0
Searches S P = (b : ℕ) (bs : List ℕ) → S (b ∷ bs) ≡ (P b bs || S bs)

search-step : (S : List ℕ → Bool) (P : ℕ → List ℕ → Bool) → Searches S P → (xs : List ℕ) → 1 ≤ length xs → S xs ≡ (P (get_or xs 0 0) (rest_of xs) || S (rest_of xs))
search-step S P by xs le = ap S (first-parted xs le) ∙ by (get_or xs 0 0) (rest_of xs)

-- behind a byte of which P doesn't hold it goes on
pub search-on : (S : List ℕ → Bool) (P : ℕ → List ℕ → Bool) → Searches S P → (xs : List ℕ) {here all : Bool} → 1 ≤ length xs → S xs ≡ all → here ≡ P (get_or xs 0 0) (rest_of xs) → here ≡ false
    → S (rest_of xs) ≡ all
search-on S P by xs le was is none = sym (search-step S P by xs le ∙ ap (λ b. b || S (rest_of xs)) (sym is ∙ none)) ∙ was

search-end : (S : List ℕ → Bool) → S [] ≡ false → (xs : List ℕ) → length xs < 1 → S xs ≡ false
search-end S none [] lt = none
search-end S none (x ∷ xs) lt = absurd (omega arith)

abbrev pub tab_here : ℕ → List ℕ → Bool
tab_here b rest = ((b == 45) || (b == 58)) && head_is 9 rest

abbrev pub colon_here : ℕ → List ℕ → Bool
colon_here b rest = (b == 58) && space_next rest

abbrev pub inner_here : ℕ → List ℕ → Bool
inner_here b rest = ((b == 91) || ((b == 123) || (b == 125))) || ((b == 58) && head_is 32 rest)

abbrev pub mark_here : ℕ → List ℕ → Bool
mark_here b rest = (b == 239) && (head_is 187 rest && head_is 191 (tail_of rest))

pub tab_step : (xs : List ℕ) → 1 ≤ length xs → has_tab_after xs ≡ (tab_here (get_or xs 0 0) (rest_of xs) || has_tab_after (rest_of xs))
tab_step xs le = search-step has_tab_after tab_here (λ _ _. refl) xs le

pub tab_end : (xs : List ℕ) → length xs < 1 → has_tab_after xs ≡ false
tab_end xs lt = search-end has_tab_after refl xs lt

pub colon_step : (xs : List ℕ) → 1 ≤ length xs → has_colon xs ≡ (colon_here (get_or xs 0 0) (rest_of xs) || has_colon (rest_of xs))
colon_step xs le = search-step has_colon colon_here (λ _ _. refl) xs le

pub colon_end : (xs : List ℕ) → length xs < 1 → has_colon xs ≡ false
colon_end xs lt = search-end has_colon refl xs lt

pub inner_step : (xs : List ℕ) → 1 ≤ length xs → has_inner xs ≡ (inner_here (get_or xs 0 0) (rest_of xs) || has_inner (rest_of xs))
inner_step xs le = search-step has_inner inner_here (λ _ _. refl) xs le

pub inner_end : (xs : List ℕ) → length xs < 1 → has_inner xs ≡ false
inner_end xs lt = search-end has_inner refl xs lt

pub mark_step : (xs : List ℕ) → 1 ≤ length xs → has_byte_order_mark xs ≡ (mark_here (get_or xs 0 0) (rest_of xs) || has_byte_order_mark (rest_of xs))
mark_step xs le = search-step has_byte_order_mark mark_here (λ _ _. refl) xs le

pub mark_end : (xs : List ℕ) → length xs < 1 → has_byte_order_mark xs ≡ false
mark_end xs lt = search-end has_byte_order_mark refl xs lt

-- ---- a key

pub key_step : (last : ℕ) (xs : List ℕ) → 1 ≤ length xs
    → key_len last xs ≡ cond (((get_or xs 0 0 == 35) && (last == 32)) || ((get_or xs 0 0 == 58) && space_next (rest_of xs))) 0 (1 + key_len (get_or xs 0 0) (rest_of xs))
key_step last xs le = ap (key_len last) (first-parted xs le)

abbrev pub key_stops : ℕ → List ℕ → Bool
key_stops last xs = ((get_or xs 0 0 == 35) && (last == 32)) || ((get_or xs 0 0 == 58) && space_next (rest_of xs))

-- where the first byte doesn't stop it, it goes on
pub key-on : (last : ℕ) (xs : List ℕ) (n : ℕ) {here : Bool} {all : ℕ} → 1 ≤ length xs → length xs ≤ n → n - length xs + key_len last xs ≡ all → here ≡ key_stops last xs → here ≡ false
    → (length (rest_of xs) ≤ n) × (n - length (rest_of xs) + key_len (get_or xs 0 0) (rest_of xs) ≡ all)
key-on last xs n le within was is none =
    let more : key_len last xs ≡ 1 + key_len (get_or xs 0 0) (rest_of xs) = key_step last xs le ∙ ap (λ b. cond b 0 (1 + key_len (get_or xs 0 0) (rest_of xs))) (sym is ∙ none) in
    let long : 1 + length (rest_of xs) ≡ length xs = rest_length xs le in
    (omega arith, omega arith)

pub key_end : (last : ℕ) (xs : List ℕ) → length xs < 1 → key_len last xs ≡ 0
key_end last [] lt = refl
key_end last (x ∷ xs) lt = absurd (omega arith)
