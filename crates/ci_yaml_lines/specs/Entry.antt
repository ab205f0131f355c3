-- What a content line says: one entry for each dash and for the key on it, or one bare entry.
use Rattle.std.specs.Prelude.{ℕ, ◌+◌, ◌*◌, List, Option}
use Rattle.ci_yaml_lines.specs.Tree.{Kind, sequence, mapping, Value}

-- what an entry begins with: a dash, a key, or neither
pub data Head : Type 0 where
  dash : Head
  key : List ℕ → Head
  bare : Head

-- An entry, where it stands, and the value that is written behind the dash or the colon, if one is.
pub record Entry : Type 0 where
  pub column : ℕ
  pub head : Head
  pub given : Option Value

-- the head of a member with this name
abbrev pub head_of : Kind → List ℕ → Head
head_of sequence name = dash
head_of mapping name = key name

-- How deep a node lies, by its column. A list lies deeper than a map at one column, since a key's
-- list may stand at the key's own column.
abbrev pub level_of : Kind → ℕ → ℕ
level_of sequence column = 2 * column + 1
level_of mapping column = 2 * column
