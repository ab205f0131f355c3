-- The lines of a literal block, as the code holds them.
use Rattle.std.specs.Prelude.{◌≡◌, ℕ, true, Some, List, [], ◌∷◌, ◌++◌, if◌then◌else◌, drop, min, map}
use denote.Bor.{Bor}
use Rattle.ci_yaml_lines.specs.declared.code.Code.{Code}
use Rattle.ci_yaml_lines.specs.Prelude.{least, spaces, Line}
use Rattle.ci_yaml.specs.Block.{is_spaces, is_in_block, block_codes}

-- the texts that are lent
abbrev pub texts_of : List (Bor (List ℕ)) → List Line
texts_of ss = map (λ s. s.now) ss

-- a line's text without its first spaces, at most n of them; nothing, if it is all spaces
abbrev pub cut_text : ℕ → Line → List ℕ
cut_text n l = if is_spaces l then [] else drop (min (spaces l) n) l

-- each line's text, and a line feed
abbrev pub cut_lines : ℕ → List Line → List ℕ
cut_lines n [] = []
cut_lines n (l ∷ ls) = cut_text n l ++ 10 ∷ cut_lines n ls

-- the same, without the last line feed
abbrev pub cut_strip : ℕ → List Line → List ℕ
cut_strip n [] = []
cut_strip n (l ∷ []) = cut_text n l
cut_strip n (l ∷ m ∷ ls) = cut_text n l ++ 10 ∷ cut_strip n (m ∷ ls)

-- the first of these lines is one of the block, and this is the least code that holds of it after the lines before
abbrev pub StopsBlock : ℕ → List Line → List Line → Code → Type 0
StopsBlock c before [] code = ⊥
StopsBlock c before (l ∷ ls) code = (is_in_block c l ≡ true) × (least (block_codes before l) ≡ Some code)
