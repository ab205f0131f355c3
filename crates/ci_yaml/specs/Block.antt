-- Literal blocks.
use Rattle.std.specs.Prelude.{◌≡◌, ℕ, ◌+◌, Bool, true, false, List, [], ◌∷◌, ◌++◌, take, drop, Option, Some, None, unwrap_or, not, nat_lt, ◌==◌, ◌&&◌, ◌||◌, if◌then◌else◌, ⊤}
use Rattle.ci_yaml_lines.specs.declared.code.Code.{Code}
use Rattle.ci_yaml_lines.specs.declared.code.Code.TheVariants.{Y3, Y9}
use Rattle.std.specs.List.{list_all}
use Rattle.ci_yaml_lines.specs.Prelude.{when, Line, is_space, Chomp, clip, strip, keep, spaces, has_byte_order_mark}

abbrev pub is_spaces : Line → Bool
is_spaces bs = list_all is_space bs

-- a line of the block below a key or dash in column c
abbrev pub is_in_block : ℕ → Line → Bool
is_in_block c l = is_spaces l || nat_lt c (spaces l)

-- how many spaces the first line has that isn't all spaces, if there is one
abbrev pub first_indent : List Line → Option ℕ
first_indent [] = None
first_indent (l ∷ ls) = if is_spaces l then first_indent ls else Some (spaces l)

abbrev pub block_indent : List Line → ℕ
block_indent ls = unwrap_or (first_indent ls) 0

-- a line's text: nothing, if it is all spaces
abbrev pub line_text : ℕ → Line → List ℕ
line_text n l = if is_spaces l then [] else drop n l

-- each line's text, and a line feed
abbrev pub block_lines : ℕ → List Line → List ℕ
block_lines n [] = []
block_lines n (l ∷ ls) = line_text n l ++ 10 ∷ block_lines n ls

-- how many lines there are without the empty ones at the end
abbrev pub kept_len : List Line → ℕ
kept_len [] = 0
kept_len (l ∷ ls) = if (kept_len ls == 0) && is_spaces l then 0 else 1 + kept_len ls

abbrev pub without_end : List Line → List Line
without_end ls = take (kept_len ls) ls

-- without the last byte
abbrev pub without_last : List ℕ → List ℕ
without_last [] = []
without_last (b ∷ []) = []
without_last (b ∷ c ∷ bs) = b ∷ without_last (c ∷ bs)

abbrev pub literal : Chomp → List Line → List ℕ
literal clip ls = block_lines (block_indent ls) (without_end ls)
literal strip ls = without_last (block_lines (block_indent ls) (without_end ls))
literal keep ls = block_lines (block_indent ls) ls

-- a line is indented less than the first line of its block
abbrev pub is_low : Option ℕ → Line → Bool
is_low None l = false
is_low (Some n) l = not (is_spaces l) && nat_lt (spaces l) n

abbrev pub indent_codes : Option ℕ → Line → List Code
indent_codes n l = when (is_low n l) Y3 ++ when (has_byte_order_mark l) Y9

-- a block's indent after one more line
abbrev pub more_indent : Option ℕ → Line → Option ℕ
more_indent (Some n) l = Some n
more_indent None l = if is_spaces l then None else Some (spaces l)

-- the codes of a line of a block, after the lines of the block before it
abbrev pub block_codes : List Line → Line → List Code
block_codes ls l = indent_codes (first_indent ls) l

-- the lines are a block below column c, after some lines of it
abbrev pub AreBlock : ℕ → List Line → List Line → Type 0
AreBlock c ls [] = ⊤
AreBlock c ls (l ∷ more) = (is_in_block c l ≡ true) × (block_codes ls l ≡ []) × AreBlock c (ls ++ l ∷ []) more

abbrev pub EndsBlock : ℕ → List Line → Type 0
EndsBlock c [] = ⊤
EndsBlock c (l ∷ ls) = is_in_block c l ≡ false
