-- The first empty line of a text, place by place.
use Rattle.std.proofs.Common.{◌≡◌, ℕ, ◌+◌, ◌-◌, ◌<◌, ◌≤◌, Bool, true, false, List, [], length, take, drop, refl, sym, ◌∙◌, ap, arith, length-drop, get_or, nat_eq, if◌then◌else◌}
use Rattle.std.proofs.Common.{suc, min, count_by, Option, Some, None, option_map}
use Rattle.std.proofs.lemmas.Bool.{false_from_ne_true, cond-true, cond-false, lt-ltb, le-ltb}
use Rattle.std.proofs.lemmas.List.{drop_more, take_min, take_all, get_or-drop}
use Rattle.std.proofs.lemmas.Option.{get_or_from_slice_get}
use Rattle.std.specs.List.{starts_with, ends_with, slice_get}
use Rattle.std.specs.Cmp.Lexicographic.{bytes_decides}
use Rattle.ci_http_messages.specs.Prelude.{MAX_HEAD_BYTES, MAX_HEAD_LINES, empty_line, head_len, is_line_feed, short, too_large, opened, opening_at, opening_of}

-- from a place on
here : (text : List ℕ) (i : ℕ) (b : Bool) → i < length text → starts_with nat_eq (drop i text) empty_line ≡ b
    → head_len (drop i text) ≡ (if b then Some 4 else option_map suc (head_len (drop (i + 1) text)))
here text i b within is =
    let cons = drop_more text i 0 within in
    ap head_len cons ∙ ap (λ t. if t then Some 4 else option_map suc (head_len (drop (i + 1) text))) (ap (λ l. starts_with nat_eq l empty_line) (sym cons) ∙ is)

one_on : (i : ℕ) (o : Option ℕ) → option_map (λ n. i + n) (option_map suc o) ≡ option_map (λ n. i + 1 + n) o
one_on i None = refl
one_on i (Some n) = ap Some (let e : i + suc n ≡ i + 1 + n = omega arith in e)

pub begins_later : (text : List ℕ) (i : ℕ) → i < length text → starts_with nat_eq (drop i text) empty_line ≡ false → head_len text ≡ option_map (λ n. i + n) (head_len (drop i text))
    → head_len text ≡ option_map (λ n. i + 1 + n) (head_len (drop (i + 1) text))
begins_later text i within is before = before ∙ ap (option_map (λ n. i + n)) (here text i false within is) ∙ one_on i (head_len (drop (i + 1) text))

-- ---- how a text opens, by the head that its first bytes have

module _ (bytes front : List ℕ) (room : ℕ) (is_room : room ≡ min MAX_HEAD_BYTES (length bytes)) (is_front : front ≡ take room bytes) where
  by_front : (o : Option ℕ) → o ≡ head_len front → opening_of bytes ≡ opening_at bytes o
  by_front o is =
      ap (λ l. opening_at bytes (head_len l)) (sym (is_front ∙ ap (λ n. take n bytes) is_room ∙ take_min MAX_HEAD_BYTES bytes)) ∙ ap (opening_at bytes) (sym is)

  pub has_too_many_lines : (n : ℕ) → Some n ≡ head_len front → MAX_HEAD_LINES < count_by is_line_feed (take n bytes) → opening_of bytes ≡ (too_large, drop n bytes)
  has_too_many_lines n is more = by_front (Some n) is ∙ cond-true _ _ _ (lt-ltb _ _ more)

  pub has_head : (n : ℕ) → Some n ≡ head_len front → count_by is_line_feed (take n bytes) ≤ MAX_HEAD_LINES → opening_of bytes ≡ (opened (take n bytes), drop n bytes)
  has_head n is most = by_front (Some n) is ∙ cond-false _ _ _ (le-ltb _ _ most)

  pub ends_early : None ≡ head_len front → length bytes < MAX_HEAD_BYTES → opening_of bytes ≡ (short, [])
  ends_early is less = by_front None is ∙ cond-true _ _ _ (lt-ltb _ _ less)

  pub has_no_end : None ≡ head_len front → MAX_HEAD_BYTES ≤ length bytes → opening_of bytes ≡ (too_large, drop MAX_HEAD_BYTES bytes)
  has_no_end is more = by_front None is ∙ cond-false _ _ _ (le-ltb _ _ more)

-- a slice from a place on is what is left there
pub left_there : (i : ℕ) (text : List ℕ) → take (length text - i) (drop i text) ≡ drop i text
left_there i text = take_all (length text - i) (drop i text) (let l = length-drop i text in omega (arith, l))

-- ---- the last byte

-- the empty line ends with a line feed, and so does what ends with it
ends_by_feed : (head : List ℕ) → ends_with nat_eq head empty_line ≡ true → get_or head (length head - 1) 0 ≡ 10
ends_by_feed head ends =
    let same : drop (length head - 4) head ≡ empty_line = sym ((bytes_decides empty_line (drop (length head - 4) head)).0 ends) in
    let last : (length head - 4) + 3 ≡ length head - 1 = omega (arith, ap length same, length-drop (length head - 4) head) in
    ap (λ n. get_or head n 0) (sym last) ∙ sym (get_or-drop (length head - 4) head 3 0) ∙ ap (λ l. get_or l 3 0) same

-- what ends with another byte doesn't end with it
pub ends_otherwise : (head : List ℕ) (b : ℕ) → Some b ≡ slice_get head (length head - 1) → (b ≡ 10 → ⊥) → false ≡ ends_with nat_eq head empty_line
ends_otherwise head b is other =
    sym (false_from_ne_true (ends_with nat_eq head empty_line) (λ ends. other (sym (get_or_from_slice_get head (length head - 1) b 0 (sym is)) ∙ ends_by_feed head ends)))
