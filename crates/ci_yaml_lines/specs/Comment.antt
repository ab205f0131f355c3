-- Where a comment begins.
use Rattle.std.specs.Prelude.{◌≡◌, ◌≢◌, ℕ, List, [], ◌∷◌, ◌++◌}

-- the last byte of a text, or the one before it where it has none
abbrev pub last_of : ℕ → List ℕ → ℕ
last_of before [] = before
last_of before (b ∷ bs) = last_of b bs

-- no `#` of this text, which a byte comes before, stands directly behind a space
abbrev pub HasNoComment : ℕ → List ℕ → Type 0
HasNoComment before bs = (xs ys : List ℕ) → bs ≡ xs ++ 35 ∷ ys → last_of before xs ≢ 32

-- A comment, or nothing, follows this text, which a byte comes before: a comment begins with a `#` directly behind a space.
pub data IsComment (before : ℕ) (front : List ℕ) (bs : List ℕ) : Type 0 where
  nothing : bs ≡ [] → IsComment before front bs
  comment : (words : List ℕ) → bs ≡ 35 ∷ words → last_of before front ≡ 32 → IsComment before front bs

-- a text falls into what says something and the comment behind it, if there is one
pub record IsCut (before : ℕ) (bs front behind : List ℕ) : Type 0 where
  pub parts : bs ≡ front ++ behind
  pub clear : HasNoComment before front
  pub ends : IsComment before front behind
