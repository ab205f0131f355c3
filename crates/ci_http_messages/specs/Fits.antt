-- What it is for a path to fit a pattern of tokens, with nothing of a walk.
use Rattle.std.specs.Prelude.{ℕ, List, [], ◌∷◌, ◌++◌, Bool, true, false, cond, ◌&&◌, ◌==◌, ltb, Option, Some, None}
use Rattle.std.specs.List.{list_all}
use Rattle.matchit.specs.Rows.{RowsOf, comes_before}
use Rattle.ci_http_messages.specs.Patterns.{Piece, fixed, slot}

-- the text from its first slash on
abbrev pub after : List ℕ → List ℕ
after [] = []
after (b ∷ p) = cond (b == 47) (b ∷ p) (after p)

abbrev pub fits : List ℕ → List ℕ → Bool
fits [] [] = true
fits [] (b ∷ p) = false
fits (x ∷ t) [] = false
fits (x ∷ t) (b ∷ p) = cond (x == 256) (cond (b == 47) false (fits t (after p))) (x == b && fits t p)

-- a parameter is followed by a slash or by nothing, and there is no catch-all
abbrev pub opens : List ℕ → Bool
opens [] = true
opens (x ∷ t) = x == 47

abbrev pub tidy : List ℕ → Bool
tidy [] = true
tidy (x ∷ t) = cond (x == 256) (opens t && tidy t) (ltb x 256 && tidy t)

module _ {K : Type 0} where
  abbrev pub first_fit : RowsOf K → List ℕ → Option K
  first_fit [] path = None
  first_fit ((t, k) ∷ rest) path = cond (fits t path) (Some k) (first_fit rest path)

  abbrev pub all_tidy : RowsOf K → Bool
  all_tidy rows = list_all (λ row. tidy row.0) rows

  abbrev pub all_open : RowsOf K → Bool
  all_open rows = list_all (λ row. opens row.0) rows

  abbrev pub ahead : List ℕ → RowsOf K → Bool
  ahead t rows = list_all (λ row. comes_before t row.0) rows

  abbrev pub sorted : RowsOf K → Bool
  sorted [] = true
  sorted ((t, k) ∷ rest) = ahead t rest && sorted rest

  -- some row goes on
  abbrev pub goes_on : RowsOf K → Bool
  goes_on [] = false
  goes_on (([], k) ∷ rest) = goes_on rest
  goes_on ((x ∷ t, k) ∷ rest) = true

abbrev pub piece_tokens : Piece → List ℕ
piece_tokens (fixed w) = w
piece_tokens (slot name) = 256 ∷ []

abbrev pub tokens : List Piece → List ℕ
tokens [] = []
tokens (p ∷ ps) = 47 ∷ (piece_tokens p ++ tokens ps)
