-- Where `-` and `:` stand before tabs.
use Rattle.std.specs.Prelude.{◌≡◌, ℕ, List, ◌∷◌, ◌++◌}
use Rattle.ci_yaml_lines.specs.Scalar.{Quoted}
use Rattle.ci_yaml_lines.specs.Comment.{IsComment}
use Rattle.ci_yaml_lines.specs.Quoting.{IsQuoted}
use Rattle.ci_yaml_lines.specs.FlowList.{HasNoMarkBeforeTab}

-- In a text, which a byte comes before, no `-` or `:` stands directly before a tab but in quoted scalars and in a comment.
pub data IsClear : ℕ → List ℕ → Type 0 where
  unquoted : (before : ℕ) (bs front behind : List ℕ) → bs ≡ front ++ behind → HasNoMarkBeforeTab (before ∷ front) → IsComment before front behind → IsClear before bs
  quoted : (before : ℕ) (bs front rest : List ℕ) (q : Quoted) → bs ≡ front ++ rest → HasNoMarkBeforeTab (before ∷ front) → IsQuoted rest q
      → IsClear 39 q.rest → IsClear before bs
