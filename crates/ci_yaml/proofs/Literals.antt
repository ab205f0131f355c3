-- The text of a block whose lines fit it.
use Rattle.std.proofs.Common.{◌≡◌, ℕ, zero, suc, ◌≤◌, Bool, true, false, cond, List, [], ◌∷◌, ◌++◌, take, drop, Option, Some, None, refl, sym, ◌∙◌, ap, subst, append_assoc, arith}
use Rattle.std.proofs.Common.{min, not, nat_lt, ◌&&◌}
use Rattle.std.specs.Prelude.{⊤}
use Rattle.std.proofs.Math.Nat.{min-eq_right}
use Rattle.std.proofs.lemmas.List.{append-nil}
use Rattle.std.proofs.lemmas.Bool.{ltb-false}
use Rattle.ci_yaml.specs.Prelude.{Y3, Y9, when, clip, strip, keep, spaces, has_byte_order_mark, Line, is_spaces, first_indent, block_indent, line_text, block_lines, kept_len}
use Rattle.ci_yaml.specs.Prelude.{without_end, without_last, literal, indent_codes, AreBlock, cut_text, cut_lines, cut_strip}
use Rattle.ci_yaml.proofs.BlockLines.{first-append}

-- each of the lines that isn't all spaces has n spaces at least
abbrev pub AreHigh : ℕ → List Line → Type 0
AreHigh n [] = ⊤
AreHigh n (l ∷ ls) = (is_spaces l ≡ false → n ≤ spaces l) × AreHigh n ls

-- ---- the indent of the first lines

not-low : (t y : Bool) (k m : ℕ) → (when (not t && nat_lt k m) Y3 ++ when y Y9) ≡ [] → t ≡ false → m ≤ k
not-low true y k m h e = absurd cc
not-low false y k m h e = by (nat_lt k m) refl h
  where
    by : (low : Bool) → nat_lt k m ≡ low → (when low Y3 ++ when y Y9) ≡ [] → m ≤ k
    by true is h' = absurd cc
    by false is h' = ltb-false k m is

high-by : (o : Option ℕ) (before : List Line) (l : Line) (ls : List Line) → first_indent before ≡ o → indent_codes o l ≡ [] → is_spaces l ≡ false → block_indent (before ++ l ∷ ls) ≤ spaces l
high-by (Some m) before l ls is clean e = rw (first-append before (l ∷ ls), is) (not-low (is_spaces l) (has_byte_order_mark l) (spaces l) m clean e)
high-by None before l ls is clean e = rw (first-append before (l ∷ ls), is, e) (omega arith)

are-high : (c : ℕ) (before ls : List Line) → AreBlock c before ls → AreHigh (block_indent (before ++ ls)) ls
are-high c before [] are = tt
are-high c before (l ∷ ls) are = (
  high-by (first_indent before) before l ls refl are.1,
  subst (λ (x : List Line). AreHigh (block_indent x) ls) (append_assoc before (l ∷ []) ls) (are-high c (before ++ l ∷ []) ls are.2),
)

high-take : (n k : ℕ) (ls : List Line) → AreHigh n ls → AreHigh n (take k ls)
high-take n zero ls h = tt
high-take n (suc k) [] h = tt
high-take n (suc k) (l ∷ ls) h = (h.0, high-take n k ls h.1)

-- ---- the text

text-by : (t : Bool) (n : ℕ) (l : Line) → is_spaces l ≡ t → (is_spaces l ≡ false → n ≤ spaces l) → cond t [] (drop (min (spaces l) n) l) ≡ cond t [] (drop n l)
text-by true n l e h = refl
text-by false n l e h = ap (λ k. drop k l) (min-eq_right (h e))

lines-are : (n : ℕ) (ls : List Line) → AreHigh n ls → cut_lines n ls ≡ block_lines n ls
lines-are n [] h = refl
lines-are n (l ∷ ls) h =
    ap (λ (x : List ℕ). x ++ 10 ∷ cut_lines n ls) (text-by (is_spaces l) n l refl h.0) ∙ ap (λ (x : List ℕ). line_text n l ++ 10 ∷ x) (lines-are n ls h.1)

last-behind : (a : List ℕ) (b : ℕ) (more : List ℕ) → without_last (a ++ b ∷ more) ≡ a ++ without_last (b ∷ more)
last-behind [] b more = refl
last-behind (x ∷ []) b more = refl
last-behind (x ∷ y ∷ a) b more = ap (λ (z : List ℕ). x ∷ z) (last-behind (y ∷ a) b more)

last-cons : (b : ℕ) (a : List ℕ) (c : ℕ) (more : List ℕ) → without_last (b ∷ (a ++ c ∷ more)) ≡ b ∷ without_last (a ++ c ∷ more)
last-cons b [] c more = refl
last-cons b (x ∷ a) c more = refl

strip-is : (n : ℕ) (ls : List Line) → cut_strip n ls ≡ without_last (cut_lines n ls)
strip-is n [] = refl
strip-is n (l ∷ []) = sym (last-behind (cut_text n l) 10 [] ∙ append-nil (cut_text n l))
strip-is n (l ∷ m ∷ ls) =
    let more : List ℕ = cut_lines n (m ∷ ls) in
    ap (λ (x : List ℕ). cut_text n l ++ 10 ∷ x) (strip-is n (m ∷ ls))
    ∙ ap (λ (x : List ℕ). cut_text n l ++ x) (sym (last-cons 10 (cut_text n m) 10 (cut_lines n ls)))
    ∙ sym (last-behind (cut_text n l) 10 more)

-- ---- a block's text

pub keep-is : (c : ℕ) (ls : List Line) → AreBlock c [] ls → cut_lines (block_indent ls) ls ≡ literal keep ls
keep-is c ls are = lines-are (block_indent ls) ls (are-high c [] ls are)

pub clip-is : (c : ℕ) (ls : List Line) → AreBlock c [] ls → cut_lines (block_indent ls) (without_end ls) ≡ literal clip ls
clip-is c ls are = lines-are (block_indent ls) (without_end ls) (high-take (block_indent ls) (kept_len ls) ls (are-high c [] ls are))

pub strip-is_literal : (c : ℕ) (ls : List Line) → AreBlock c [] ls → cut_strip (block_indent ls) (without_end ls) ≡ literal strip ls
strip-is_literal c ls are = strip-is (block_indent ls) (without_end ls) ∙ ap without_last (clip-is c ls are)
