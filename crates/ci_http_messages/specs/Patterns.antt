-- What the router sees of paths: their patterns, whose slots take any text.
use Rattle.std.specs.Prelude.{ℕ, ◌-◌, List, [], ◌∷◌, Bool, true, false, cond, ◌&&◌, ◌==◌, ltb, length, map, take, drop, Option, Some, None, nat_eq}
use Rattle.std.specs.Cmp.Lexicographic.{pointwise}
use Rattle.ci_http_messages.specs.declared.routing.table.Pattern.{Pattern}
use Rattle.ci_http_messages.specs.declared.routing.table.TheConstants.{PATHS}
use Rattle.ci_http_messages.specs.Segments.{segments}

-- a part of a pattern: a word, or a slot of this name, where any text stands that is not empty
pub data Piece : Type 0 where
  fixed : List ℕ → Piece
  slot : List ℕ → Piece

-- each part fits its segment
abbrev pub pieces_fit : List Piece → List (List ℕ) → Bool
pieces_fit [] [] = true
pieces_fit [] (s ∷ ss) = false
pieces_fit (p ∷ ps) [] = false
pieces_fit (fixed w ∷ ps) (s ∷ ss) = pointwise nat_eq w s && pieces_fit ps ss
pieces_fit (slot name ∷ ps) (s ∷ ss) = ltb 0 (length s) && pieces_fit ps ss

module _ {K : Type 0} where
  -- the first pattern whose pieces fit
  abbrev pub first_of : List (List Piece × K) → List (List ℕ) → Option K
  first_of [] ss = None
  first_of ((ps, k) ∷ rest) ss = cond (pieces_fit ps ss) (Some k) (first_of rest ss)

  -- a path starts with a slash
  abbrev pub pattern_in : List (List Piece × K) → List ℕ → Option K
  pattern_in rs [] = None
  pattern_in rs (b ∷ p) = cond (b == 47) (first_of rs (segments p)) None

-- the names of the slots, and the segments that stand at them
abbrev pub slot_names : List Piece → List (List ℕ)
slot_names [] = []
slot_names (fixed w ∷ ps) = slot_names ps
slot_names (slot name ∷ ps) = name ∷ slot_names ps

abbrev pub slot_texts : List Piece → List (List ℕ) → List (List ℕ)
slot_texts [] ss = []
slot_texts (p ∷ ps) [] = []
slot_texts (fixed w ∷ ps) (s ∷ ss) = slot_texts ps ss
slot_texts (slot name ∷ ps) (s ∷ ss) = s ∷ slot_texts ps ss

-- the segment at the first slot of this name
abbrev pub text_at : List ℕ → List Piece → List (List ℕ) → Option (List ℕ)
text_at key [] ss = None
text_at key (p ∷ ps) [] = None
text_at key (fixed w ∷ ps) (s ∷ ss) = text_at key ps ss
text_at key (slot name ∷ ps) (s ∷ ss) = cond (pointwise nat_eq name key) (Some s) (text_at key ps ss)

module _ {K : Type 0} where
  abbrev pub text_of : List ℕ → List (List Piece × K) → List (List ℕ) → Option (List ℕ)
  text_of key [] ss = None
  text_of key ((ps, k) ∷ rest) ss = cond (pieces_fit ps ss) (text_at key ps ss) (text_of key rest ss)

  -- what stands at the slot of this name in the path's pattern
  abbrev pub text_in : List ℕ → List (List Piece × K) → List ℕ → Option (List ℕ)
  text_in key rs [] = None
  text_in key rs (b ∷ p) = cond (b == 47) (text_of key rs (segments p)) None

-- a segment of a path as the code's table writes it: in braces stands the name of a slot
abbrev pub piece_of : List ℕ → Piece
piece_of [] = fixed []
piece_of (b ∷ s) = cond (b == 123) (slot (take (length s - 1) s)) (fixed (b ∷ s))

abbrev pub pieces_in : List ℕ → List Piece
pieces_in path = map piece_of (segments (drop 1 path))

-- the patterns, as the code's table has them: of two that fit the first counts
unfoldable pub patterns : List (List Piece × Pattern)
patterns = map (λ row. (pieces_in row.0.now, row.1)) PATHS
