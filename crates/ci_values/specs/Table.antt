-- Words of a table.
use Rattle.std.specs.Prelude.{ℕ, List, [], ◌∷◌, map, Option, Some, None, if◌then◌else◌}
use Rattle.std.specs.Borrow.{Bor}
use Rattle.std.specs.Str.{bytes_eq}

-- what a word means by a table
abbrev pub meaning_of : {T : Type 0} → List (List ℕ × T) → List ℕ → Option T
meaning_of [] word = None
meaning_of (e ∷ es) word = if bytes_eq e.0 word then Some e.1 else meaning_of es word

-- the word of a list that a word is
abbrev pub word_in : List (List ℕ) → List ℕ → Option (List ℕ)
word_in [] word = None
word_in (w ∷ ws) word = if bytes_eq w word then Some w else word_in ws word

-- a table and a list of the code, without where they lie in memory
abbrev pub table_view : {T : Type 0} → List (Bor (List ℕ) × T) → List (List ℕ × T)
table_view es = map (λ e. (e.0.now, e.1)) es

abbrev pub words_view : List (Bor (List ℕ)) → List (List ℕ)
words_view ws = map (λ w. w.now) ws
